use Rattle.std.proofs.Common.{sym, ap, ◌∙◌}
use Rattle.std.specs.Option.{option_map}
use Rattle.ifj_typing.specs.Kinds.{text_of}
use Rattle.ifj_typing.specs.Scopes.{scope_names}
use Rattle.ifj_typing.proofs.scope.Scope.parameter.Goals as goal

pub returns-in-Some-clause-found : goal.returns-in-Some-clause-found
returns-in-Some-clause-found c =
    sym (c.requires.scope.has_types.tells c.args.x c.requires.known) ∙ ap (option_map (text_of (scope_names c.args.self.now))) (sym c.in-Some.ensures.value)

pub returns-in-Some-clause-known : goal.returns-in-Some-clause-known
returns-in-Some-clause-known c = c.requires.scope.has_types.known c.args.x.0 _ (sym c.in-Some.ensures.value)

pub returns-in-None-clause-found : goal.returns-in-None-clause-found
returns-in-None-clause-found c =
    sym (c.requires.scope.has_types.tells c.args.x c.requires.known) ∙ ap (option_map (text_of (scope_names c.args.self.now))) (sym c.in-None.ensures.value)

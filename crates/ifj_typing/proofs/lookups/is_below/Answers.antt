use Rattle.std.proofs.Common.{refl, sym, subst}
use Rattle.dj_calculus.specs.Subclasses.{class_kind, Below, null_below}
use Rattle.ifj_table.specs.Tables.{plain_table, table_names}
use Rattle.ifj_typing.specs.Kinds.{text_of, plain_kind}
use Rattle.ifj_typing.specs.declared.kind.Kind.{Kind}
use Rattle.ifj_typing.proofs.lookups.is_below.Goals as goal

pub returns-in-Null : goal.returns-in-Null
returns-in-Null c =
    let t = c.args.table.now in (
      λ is. subst (λ (k : Kind). Below (plain_table t) (plain_kind (table_names t) k) (class_kind (text_of (table_names t) c.args.class))) (sym c.in-Null.is) (null_below _),
      λ below. refl,
    )

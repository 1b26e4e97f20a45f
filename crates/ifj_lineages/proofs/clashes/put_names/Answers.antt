use Rattle.std.proofs.Common.{◌≡◌, suc, ◌+◌, ◌<◌, [], ◌∷◌, ◌++◌, take, get_or, length, ap, subst, sym, ◌∙◌, arith}
use Rattle.std.proofs.Math.Seq.{take-suc}
use Rattle.persistent_trie.specs.Versions.{says}
use Rattle.persistent_trie.proofs.Keeping.{keeps_joined}
use Rattle.ifj_lineages.proofs.Turning.{AreBeside, one_beside}
use Rattle.ifj_lineages.proofs.clashes.put_names.Goals as goal

pub loop-name-preserved : goal.loop-name-preserved
loop-name-preserved c =
    let names = c.args.names.now in
    let n = c.loop-name.name-index in
    let low : n < length names = omega (arith, c.loop-name-test.true) in
    let next : n + 1 ≡ suc n = omega arith in
    let more : take (n + 1) names ≡ take n names ++ get_or names n 0 ∷ [] = ap (λ k. take k names) next ∙ take-suc names n 0 low in
    record {
      version = c.in_ok-now.ensures.version;
      kept = keeps_joined _ _ _ c.loop-name.invariant.kept c.insert.ensures.kept;
      beside = subst (λ ns. AreBeside ns (says c.args.trie.now c.args.root) (says c.insert.new.self c.in_ok-now.now)) (sym more)
          (one_beside (take n names) (get_or names n 0) (says c.args.trie.now c.args.root) (says c.loop-name.trie c.loop-name.now) (says c.insert.new.self c.in_ok-now.now) c.loop-name.invariant.beside c.in_ok-now.ensures.says);
    }

use Rattle.std.specs.Prelude.{unwrap_or, []}
use Rattle.std.proofs.Common.{◌≡◌, map, slice_get, Some, refl, sym, ap, ◌∙◌, subst, arith}
use Rattle.dj_tree.specs.declared.declarations.Spot.{Spot}
use Rattle.ifj_table.specs.Sorted.{AreRising}
use Rattle.ifj_table.proofs.EntryMaps.{element_at}
use Rattle.ifj_table.proofs.TableLemmas.{place_within, element_is}
use Rattle.ifj_table.proofs.MemberLemmas.{method_key, err_any}
use Rattle.ifj_table.proofs.methods.redeclare.Goals as goal

pub place-at-requires-clause-rising : goal.place-at-requires-clause-rising
place-at-requires-clause-rising c = subst (λ ms. AreRising (map (method_key c.args.names.now) ms)) (sym c.as_slice.ensures.value) c.requires.rising

pub index_mut-method-requires : goal.index_mut-method-requires
index_mut-method-requires c =
    let names = c.args.names.now in
    let here = subst (λ ms. slice_get (map (method_key names) ms) c.place-at.result ≡ Some c.text.result.now) c.as_slice.ensures.value c.place-at.ensures in
    omega (arith, place_within (method_key names) c.args.methods.now.items c.place-at.result c.text.result.now here, c.args.methods.now.ok.0)

pub returns-in_err-push-clause-err : goal.returns-in_err-push-clause-err
returns-in_err-push-clause-err c =
    let names = c.args.names.now in
    let here = subst (λ ms. slice_get (map (method_key names) ms) c.place-at.result ≡ Some c.text.result.now) c.as_slice.ensures.value c.place-at.ensures in
    let old = c.index_mut-method.result.now in
    err_any c.from_residual.result (record {
      at = c.place-at.result;
      old = old;
      new = record old { bodies = c.push.new.self };
      stood = element_is c.args.methods.now.items c.place-at.result old (place_within (method_key names) c.args.methods.now.items c.place-at.result c.text.result.now here) c.index_mut-method.ensures.value;
      result_is = refl;
      spot_is = refl;
      types_are = refl;
      bodies_are = c.in_err-push.ensures.items;
      stands = refl;
    })

pub returns-clause-ok : goal.returns-clause-ok
returns-clause-ok c =
    let names = c.args.names.now in
    let here = subst (λ ms. slice_get (map (method_key names) ms) c.place-at.result ≡ Some c.text.result.now) c.as_slice.ensures.value c.place-at.ensures in
    let old = c.index_mut-method.result.now in
    let it = element_at (method_key names) c.args.methods.now.items c.place-at.result c.text.result.now here in
    let stood = element_is c.args.methods.now.items c.place-at.result old (place_within (method_key names) c.args.methods.now.items c.place-at.result c.text.result.now here) c.index_mut-method.ensures.value in
    let same : it.0 ≡ old = cc in
    record {
      at = c.place-at.result;
      old = old;
      new = record { result = c.args.own.result; spot = c.args.own.spot; parameters = c.args.own.types; bodies = c.push.new.self };
      stood = stood;
      named = ap (method_key names) (sym same) ∙ it.2 ∙ sym (ap (λ o. unwrap_or o []) c.text.ensures);
      result_is = refl;
      spot_is = refl;
      types_are = refl;
      bodies_are = c.in_ok-push.ensures.items;
      stands = refl;
    }

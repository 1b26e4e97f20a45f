use Rattle.std.proofs.Common.{length, refl, sym, subst}
use Rattle.dj_names.specs.Texts.{AreDistinct}
use Rattle.ifj_table.specs.Entries.{text_at}
use Rattle.ifj_table.proofs.Inherited.{entry_held}
use Rattle.ifj_lineages.proofs.Telling.{fields_below, methods_below, above_below, clashes_below, lineages_later}
use Rattle.ifj_lineages.proofs.Turning.{AreNames, over_turning}
use Rattle.ifj_lineages.proofs.lineages.Lineages.below.Goals as goal

pub returns-clause-lineages : goal.returns-clause-lineages
returns-clause-lineages c =
    lineages_later c.args.table.now c.args.self.now _ record { fields = c.in_ok-fields.ensures.kept; methods = c.in_ok-methods.ensures.kept; above = c.in_ok-above.ensures.kept; clashes = c.in_ok-clashes.ensures.kept } refl c.requires.lineages

pub returns-clause-lineage : goal.returns-clause-lineage
returns-clause-lineage c =
    let t = c.args.table.now in
    let class = c.args.class.now in
    let parent = c.args.parent in
    let distinct = subst AreDistinct c.names.ensures c.names_are_distinct.ensures in
    let known = (entry_held t (text_at t.names class.spot) class c.requires.class).parent in
    record {
      has_fields = c.in_ok-fields.ensures.version;
      fields = fields_below t distinct class c.requires.class c.args.self.now.fields c.put_fields.new.trie parent.fields c.in_ok-fields.fields c.requires.parent.fields c.in_ok-fields.ensures.over;
      has_methods = c.in_ok-methods.ensures.version;
      methods = methods_below t distinct class c.requires.class c.args.self.now.methods c.put_methods.new.trie parent.methods c.in_ok-methods.methods c.requires.parent.methods c.in_ok-methods.ensures.over;
      has_above = c.in_ok-above.ensures.version;
      above = above_below t distinct class c.requires.class c.args.self.now.above c.insert.new.self parent.above c.in_ok-above.above known c.requires.parent.above c.in_ok-above.ensures.says;
      has_clashes = c.in_ok-clashes.ensures.version;
      clashes = clashes_below t distinct class c.requires.class c.args.self.now.clashes c.put_names.new.trie parent.clashes c.in_ok-clashes.clashes c.requires.parent.clashes
          (over_turning t class _ _ _ (subst (λ names. AreNames t class names (length class.methods.items)) (sym c.as_slice.ensures.value) c.in_ok-turning.ensures) c.in_ok-clashes.ensures.over);
    }

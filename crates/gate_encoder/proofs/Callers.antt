-- What a client cites of entries and of what they write.
--
-- | You want | Use |
-- |---|---|
-- | that a key keeps its number, or a literal its variable, over a step, an entry's steps or entries | Keeps: keeps_step, keeps_steps, keeps_all, keeps_after; numbers_key and gate_numbers for a key that gets its number; lit_keeps, lits_keep |
-- | that the key of a numbered literal has a number | numbered_key |
-- | what entries one behind the other write, and their steps | write_all-append, all_steps-append, after_all_steps |
-- | that a call's cut is a cut of the whole | cut_none, cut_all, cut_front, cut_behind |
-- | that a test of keys which is equality is an equivalence | equivalence_of |
-- | that an entry says the same of values that are alike on its keys | agrees_same |
pub use Rattle.gate_encoder.proofs.Gating.{cut_none}
pub use Rattle.gate_encoder.proofs.Numbers.{Keeps, keeps_self, keeps_step, keeps_steps, keeps_all, keeps_after, numbers_key, gate_numbers, lit_keeps, are_numbered, lits_keep, numbered_key, write_all-append, all_steps-append, after_all_steps, cut_all, cut_front, cut_behind}
pub use Rattle.gate_encoder.proofs.Saying.{equivalence_of, agrees_same}

use Rattle.std.proofs.Common.{◌-◌, ◌^◌}
use Rattle.sat_solver.specs.Searches.{weight_of}
use Rattle.incremental_solver.specs.Inquiries.{AreTrue, AssumesFirst, Grows}
use Rattle.incremental_solver.proofs.inquiry.inquire.Given as goal

abbrev pub invariant-turns : goal.invariant-turns
invariant-turns l = record {
  grows : Grows l.fn.search l.search;
  assumes : AssumesFirst l.assumptions l.search.trail.entries;
  settled : AreTrue l.settled l.search.trail.entries l.assumptions;
}

abbrev pub decreases-turns : goal.decreases-turns
decreases-turns l = 3 ^ l.search.trail.vars - weight_of l.search

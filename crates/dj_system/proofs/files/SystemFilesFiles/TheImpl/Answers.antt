-- What the trait says of bytes that are left says nothing, since files don't tell them. The rest is said of the one count.
use Rattle.std.proofs.Common.{refl}
use Rattle.dj_system.proofs.Edge.{if_ok_always, on_err_always, on_ok_each}
use Rattle.dj_system.proofs.files.SystemFilesFiles.TheImpl.Goals as goal

pub read-tells : goal.read-tells
read-tells g c =
    record {
      count = c.ensures.count;
      enough = if_ok_always c.result _ (λ n bytes is. cc);
      moved = if_ok_always c.result _ (λ n bytes is. cc);
      rest = if_ok_always c.result _ (λ n. refl);
      ended = if_ok_always c.result _ (λ n zero some bytes is. cc);
      kept = on_err_always c.result _ refl;
      others = λ other differs. refl;
      no_fault = on_ok_each c.result _ c.ensures.no_fault;
      failed = c.ensures.failed;
      counts = λ each. c.ensures.counts;
    }

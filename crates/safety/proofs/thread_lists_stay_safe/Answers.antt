use Rattle.safety.proofs.thread_lists_stay_safe.Goals as goal
use Rattle.safety.proofs.Tables.{run_safe}

pub returns : goal.returns
returns c = run_safe

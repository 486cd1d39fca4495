use Rattle.safety.proofs.accepted_tables_stay_safe.Goals as goal
use Rattle.safety.proofs.Tables.{table_safe}

pub returns : goal.returns
returns c = table_safe

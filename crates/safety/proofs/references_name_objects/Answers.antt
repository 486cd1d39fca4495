use Rattle.safety.proofs.references_name_objects.Goals as goal
use Rattle.safety.proofs.References.{names_stand}

pub returns : goal.returns
returns c = names_stand

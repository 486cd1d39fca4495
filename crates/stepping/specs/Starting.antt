-- What a call that makes a machine answers, beside the memory that it is made for.
use Rattle.std.specs.Prelude.{Ok, Err, Result}
use Rattle.table.specs.declared.fault.Fault.{Fault}
use Rattle.memory.specs.Model.{Store}
use Rattle.machine.specs.declared.threads.Machine.{Machine}
use Rattle.machine.specs.World.{World, world_of}

-- the machine that was made, with its memory, or the refusal
abbrev pub made_of : Store → Result Machine Fault → Result World Fault
made_of m (Ok M) = Ok (world_of M m)
made_of m (Err e) = Err e

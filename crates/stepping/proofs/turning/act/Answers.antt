use Rattle.std.proofs.Common.{rules}
use Rattle.table.specs.Reading.{program_of}
use Rattle.stepping.proofs.turning.act.Goals as goal

pub returns-in-New-clause-value : goal.returns-in-New-clause-value
returns-in-New-clause-value g c = let k = c.create.ensures.value c.args.turning.room in search rules

pub returns-in-New-clause-after : goal.returns-in-New-clause-after
returns-in-New-clause-after g c = let k = c.create.ensures.after c.args.turning.room in search rules

pub returns-in-Null-clause-value : goal.returns-in-Null-clause-value
returns-in-Null-clause-value g c = let k = c.null.ensures (g.M.Memory.model c.args.memory.now) c.args.turning.room in search rules

pub returns-in-Int-clause-value : goal.returns-in-Int-clause-value
returns-in-Int-clause-value g c = let k = c.int.ensures (program_of c.args.table.now) (g.M.Memory.model c.args.memory.now) c.args.turning.room in search rules

pub returns-in-Share-clause-value : goal.returns-in-Share-clause-value
returns-in-Share-clause-value g c = let k = c.share.ensures (program_of c.args.table.now) (g.M.Memory.model c.args.memory.now) c.args.turning.room in search rules

pub returns-in-Own-clause-value : goal.returns-in-Own-clause-value
returns-in-Own-clause-value g c = let k = c.own.ensures (program_of c.args.table.now) (g.M.Memory.model c.args.memory.now) c.args.turning.room in search rules

pub returns-in-Get-clause-value : goal.returns-in-Get-clause-value
returns-in-Get-clause-value g c = let k = c.get.ensures c.args.turning.room in search rules

pub returns-in-Take-clause-value : goal.returns-in-Take-clause-value
returns-in-Take-clause-value g c = let k = c.take.ensures.value c.args.turning.room in search rules

pub returns-in-Take-clause-after : goal.returns-in-Take-clause-after
returns-in-Take-clause-after g c = let k = c.take.ensures.after c.args.turning.room in search rules

pub returns-in-Set-clause-value : goal.returns-in-Set-clause-value
returns-in-Set-clause-value g c = let k = c.set.ensures.value c.args.turning.room in search rules

pub returns-in-Set-clause-after : goal.returns-in-Set-clause-after
returns-in-Set-clause-after g c = let k = c.set.ensures.after c.args.turning.room in search rules

pub returns-in-Add-clause-value : goal.returns-in-Add-clause-value
returns-in-Add-clause-value g c = let k = c.add.ensures (program_of c.args.table.now) (g.M.Memory.model c.args.memory.now) c.args.turning.room in search rules

pub returns-in-Again-clause-value : goal.returns-in-Again-clause-value
returns-in-Again-clause-value g c = let k = c.again.ensures (g.M.Memory.model c.args.memory.now) c.args.turning.room in search rules

pub returns-in-Join-clause-value : goal.returns-in-Join-clause-value
returns-in-Join-clause-value g c = let k = c.join.ensures (program_of c.args.table.now) (g.M.Memory.model c.args.memory.now) c.args.turning.room in search rules

pub returns-in-Emit-clause-value : goal.returns-in-Emit-clause-value
returns-in-Emit-clause-value g c = let k = c.emit.ensures (program_of c.args.table.now) (g.M.Memory.model c.args.memory.now) in search rules

pub returns-in-Ask-clause-value : goal.returns-in-Ask-clause-value
returns-in-Ask-clause-value g c = let k = c.ask.ensures.value c.args.turning.room in search rules

pub returns-in-Ask-clause-after : goal.returns-in-Ask-clause-after
returns-in-Ask-clause-after g c = let k = c.ask.ensures.after c.args.turning.room in search rules

-- The program and the function that a body stands for.
use Rattle.table.specs.declared.view.Table.{Table}
use Rattle.table.specs.Program.{Function, Program}
use Rattle.table.specs.Reading.{program_of}
use Rattle.rules.specs.declared.body.Body.{Body}
use Rattle.rules.specs.Rules.{callee}

-- what a table holds; proofs of the code do not look into it
unfoldable pub seen : Table → Program
seen t = program_of t

abbrev pub program_in : Body → Program
program_in b = seen b.table

abbrev pub function_in : Body → Function
function_in b = callee (seen b.table) b.function

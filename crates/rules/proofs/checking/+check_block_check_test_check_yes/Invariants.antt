use Rattle.std.proofs.Common.{◌+◌, ◌-◌, ◌*◌}
use Rattle.rules.proofs.checking.+check_block_check_test_check_yes.Given as goal

-- a test has one record fewer than the part that it begins, and its yes block no more than the test
abbrev pub decreases-check_block : goal.decreases-check_block
decreases-check_block l = 3 * (l.part.end - l.part.place)

abbrev pub decreases-check_test : goal.decreases-check_test
decreases-check_test l = 3 * (l.part.end - (l.part.place + 1)) + 2

abbrev pub decreases-check_yes : goal.decreases-check_yes
decreases-check_yes l = 3 * (l.part.end - l.part.place) + 1

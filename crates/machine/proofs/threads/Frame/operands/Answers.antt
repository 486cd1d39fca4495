use Rattle.std.proofs.Common.{◌≡◌, true, map, length, refl, arith, rules}
use Rattle.std.specs.List.{list_all}
use Rattle.machine.specs.declared.threads.Slot.TheVariants.{Empty}
use Rattle.machine.specs.Values.{at, given}
use Rattle.machine.proofs.Mapped.{mapped}
use Rattle.machine.proofs.threads.Frame.operands.Goals as goal

pub returns : goal.returns
returns g c =
    let vs = c.args.self.now.slots in
    let xs = c.args.xs in
    let all : list_all (given vs) xs ≡ true = search rules in
    let long : length xs ≡ g.row.N = omega arith in
    let made : c.map.result ≡ map (at vs) xs = mapped _ (at vs) _ (λ x y q k. search rules) xs c.map.result g.row.N 0 Empty long c.map.ensures.items in
    rw (made, all) refl

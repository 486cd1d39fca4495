-- What a check says of a part, by what it says of the blocks in it.
use Rattle.std.proofs.Common.{◌≡◌, ℕ, ◌+◌, ◌-◌, ◌<◌, ◌≤◌, List, length, Ok, Err, Option, ap, ◌∙◌, add-one, arith}
use Rattle.table.specs.declared.fault.Fault.{Fault}
use Rattle.table.specs.declared.types.Ty.{Ty}
use Rattle.table.specs.declared.records.Test.{Test}
use Rattle.table.specs.declared.records.Record as declared
use Rattle.table.specs.declared.records.Record.TheVariants as coded
use Rattle.table.specs.Faults.{Passes}
use Rattle.table.specs.Records.{Op, Ask, meant}
use Rattle.table.specs.Program.{Function, Program}
use Rattle.rules.specs.declared.body.Body.{Body}
use Rattle.rules.specs.declared.parts.Part.{Part}
use Rattle.rules.specs.declared.parts.Sort.TheVariants.{InYes, InNo}
use Rattle.rules.specs.Rules.{record_at, bound, yes_types}
use Rattle.rules.specs.Scopes.{grown}
use Rattle.rules.specs.Seen.{program_in, function_in}
use Rattle.rules.specs.Scan.{Scanner, scan}
use Rattle.rules.specs.Parts.{span, scanned, tested, judged_at}
use Rattle.rules.proofs.Judging.{spent, span_more, span_length, yes_span, no_span, rest_span, block_refused, block_asks, block_goes, test_first, test_second, test_third}

module _ (b : Body) (ts : List Ty) (q : Part) where
  abbrev p : Program
  p = program_in b

  abbrev fn : Function
  fn = function_in b

  -- with its first record
  module _ (inside : q.end ≤ length fn.records) (low : q.place < q.end) (f : ℕ) (fuel : q.end - q.place < f) where
    abbrev left : ℕ
    left = q.end - (q.place + 1)

    abbrev rest : List (Option Op)
    rest = span fn.records (q.place + 1) q.end

    pub part_refused : (e : Fault) → Err e ≡ judged_at b ts q → Err e ≡ scanned f b ts q
    part_refused e h =
        let g = spent (q.end - q.place) f fuel in
        block_refused p fn b.function f g.0 q.levels left q.place ts q.sort (span fn.records q.place q.end) (record_at fn q.place) rest e g.1
        (span_more fn.records q.place q.end low inside) (span_length fn.records (q.place + 1) q.end inside) h

    pub part_asks : (op : Op) (t : Test) (x y : ℕ) (r : Passes) → op ≡ Ask t x y → Ok op ≡ judged_at b ts q → ((g : ℕ) → left < g → r ≡ tested g b ts q t x y) → r ≡ scanned f b ts q
    part_asks op t x y r e h go =
        let g = spent (q.end - q.place) f fuel in
        go g.0 (omega (arith, g.2))
        ∙ block_asks p fn b.function f g.0 q.levels left q.place ts q.sort (span fn.records q.place q.end) (record_at fn q.place) rest op t x y g.1
        (span_more fn.records q.place q.end low inside) (span_length fn.records (q.place + 1) q.end inside) e h

    pub part_goes : (c : declared.Record) (us : List Ty) (r : Passes) → ((t : Test) (x y : ℕ) → c ≡ coded.Ask t x y → ⊥) → us ≡ grown ts (bound p fn ts (meant c)) → Ok (meant c) ≡ judged_at b ts q
        → ((g : ℕ) → left < g → r ≡ scanned g b us (record q { place = q.place + 1 })) → r ≡ scanned f b ts q
    part_goes c us r n u h go =
        let g = spent (q.end - q.place) f fuel in
        go g.0 (omega (arith, g.2))
        ∙ block_goes p fn b.function f g.0 q.levels left q.place (q.place + 1) ts us q.sort (span fn.records q.place q.end) (record_at fn q.place) rest c g.1
        (span_more fn.records q.place q.end low inside) (span_length fn.records (q.place + 1) q.end inside) (add-one q.place) u n h

  -- that begins with a test
  module _ (t : Test) (x y : ℕ) (fit : q.place + 1 + x + y ≤ q.end) (f : ℕ) where
    abbrev go : Scanner
    go = scan p fn b.function f

    abbrev first : ℕ
    first = q.place + 1

    abbrev second : ℕ
    second = q.place + 1 + x

    abbrev behind : ℕ
    behind = q.place + 1 + x + y

    abbrev its_rest : List (Option Op)
    its_rest = span fn.records first q.end

    pub yes_refused : (e : Fault) → Err e ≡ go (q.levels - 1) first (yes_types p fn ts t) (InYes y) (span fn.records first second) → Err e ≡ tested f b ts q t x y
    yes_refused e h =
        test_first p fn b.function go q.levels q.place ts q.sort t x y its_rest (span fn.records first second) e first (add-one q.place) (yes_span fn.records first q.end x y fit) h

    module _ (us : List Ty) (u : us ≡ ts) (yes : Ok tt ≡ go (q.levels - 1) first (yes_types p fn ts t) (InYes y) (span fn.records first second)) where
      pub no_refused : (e : Fault) → Err e ≡ go (q.levels - 1) second us InNo (span fn.records second behind) → Err e ≡ tested f b ts q t x y
      no_refused e h =
          test_second p fn b.function go q.levels q.place us ts q.sort t x y its_rest (span fn.records first second) (span fn.records second behind) e first second
          (add-one q.place) (ap (λ n. n + x) (add-one q.place)) (yes_span fn.records first q.end x y fit) (no_span fn.records first q.end x y fit) u yes h

      pub behind_said : (vs : List Ty) (r : Passes) → vs ≡ us → Ok tt ≡ go (q.levels - 1) second us InNo (span fn.records second behind)
          → r ≡ scanned f b vs (record q { place = behind }) → r ≡ tested f b ts q t x y
      behind_said vs r v n h =
          h ∙ test_third p fn b.function go q.levels q.place us vs ts q.sort t x y its_rest (span fn.records first second) (span fn.records second behind)
          (span fn.records behind q.end) first second behind (add-one q.place) (ap (λ n. n + x) (add-one q.place)) (ap (λ n. n + x + y) (add-one q.place))
          (yes_span fn.records first q.end x y fit) (no_span fn.records first q.end x y fit) (rest_span fn.records first q.end x y fit) u v yes n

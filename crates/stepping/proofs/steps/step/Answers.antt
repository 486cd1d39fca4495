use Rattle.std.proofs.Common.{◌≡◌, ℕ, ◌-◌, ◌<◌, List, length, Ok, Err, Option, Result, sym, refl, ap, ◌∙◌, subst, rules}
use Rattle.std.proofs.lemmas.Result.{err_from_is_err_and}
use Rattle.list.specs.Held.{held, room}
use Rattle.table.specs.declared.fault.Fault.{Fault}
use Rattle.table.specs.Reading.{program_of}
use Rattle.memory.specs.Model.{Store}
use Rattle.machine.specs.World.{Task, World, world_of}
use Rattle.machine.specs.Steps.{Taken, after_step, put_out}
use Rattle.stepping.specs.Turns.{Listed}
use Rattle.stepping.specs.Committing.{faulted, passes, listed, out_of}
use Rattle.stepping.proofs.Taken.{asked, turn_kept, turn_fits, step_refused, step_taken, fits_out, pushed_out}
use Rattle.stepping.proofs.steps.step.Goals as goal

pub returns-in_err-outcome : goal.returns-in_err-outcome
returns-in_err-outcome g c =
    let m = g.M.Memory.model c.args.memory.now in
    let n = g.M.Memory.model c.turn-turned.new.memory in
    let W = world_of c.args.machine.now m in
    let i = c.args.thread in
    let xs = held c.args.out.now in
    let runs = asked _ _ c.in_ok-require.field-0 (sym c.require.ensures ∙ c.in_ok-require.was) ∙ c.runs.ensures in
    let e : c.map_err.result ≡ faulted c.args.thread c.turn-turned.result = search rules in
    let d = err_from_is_err_and c.from_residual-in_err-outcome.result c.from_residual-in_err-outcome.ensures.1 in
    let f = sym c.in_err-outcome.was ∙ e in
    let s = step_refused (program_of c.args.table.now) _ c.args.machine.now m i c.all-threads.result.now c.free-free.result c.all-threads.ensures.value c.free-free.ensures runs n c.turn-turned.result c.in_err-outcome.field-0.0 f c.turn-turned.ensures.value in
    record {
      value = d.1 ∙ ap Err d.2 ∙ sym (ap passes s);
      world = ap (λ (k : Store). world_of c.args.machine.now k) (turn_kept i c.turn-turned.result c.in_err-outcome.field-0.0 m n f c.turn-turned.ensures.kept) ∙ sym (ap (after_step W) s);
      out = sym (ap (λ (k : Result Taken Fault). listed xs (put_out k)) s);
      room = refl;
    }

-- a step that is taken, with what it leaves and puts out
taken_all : (W U V : World) (s : Result Taken Fault) (o : Option ℕ) (xs ys : List ℕ) → s ≡ Ok (record { world = V; out = o }) → U ≡ V → ys ≡ listed xs o → (Ok tt ≡ passes s) × (U ≡ after_step W s) × (ys ≡ listed xs (put_out s))
taken_all W U V s o xs ys e u h = (sym (ap passes e), u ∙ sym (ap (after_step W) e), h ∙ sym (ap (λ (k : Result Taken Fault). listed xs (put_out k)) e))

pub returns-in-Some : goal.returns-in-Some
returns-in-Some g c =
    let m = g.M.Memory.model c.args.memory.now in
    let n = g.M.Memory.model c.turn-turned.new.memory in
    let W = world_of c.args.machine.now m in
    let i = c.args.thread in
    let xs = held c.args.out.now in
    let runs = asked _ _ c.in_ok-require.field-0 (sym c.require.ensures ∙ c.in_ok-require.was) ∙ c.runs.ensures in
    let e : c.map_err.result ≡ faulted c.args.thread c.turn-turned.result = search rules in
    let o = c.in_ok-outcome.outcome in
    let t = sym c.in_ok-outcome.was ∙ e in
    let s = step_taken (program_of c.args.table.now) _ c.args.machine.now m i c.all-threads.result.now c.free-free.result c.all-threads.ensures.value c.free-free.ensures runs n c.turn-turned.result o t c.turn-turned.ensures.value in
    let V = ap (λ (ts : List Task). record { tasks = ts; memory = n }) c.commit.ensures in
    let fits = fits_out _ _ _ o (turn_fits i _ _ _ c.turn-turned.result o t c.turn-turned.ensures.fits) in
    let k : 0 < room c.args.out.now - length (held c.args.out.now) = subst (λ (f : ℕ). 0 < f) c.free-free.ensures (subst (Listed c.free-free.result) (sym c.in-Some.ensures) fits) in
    let h = c.push.ensures.held ∙ pushed_out (room c.args.out.now) c.in-Some.number xs k ∙ ap (listed xs) c.in-Some.ensures in
    let done = taken_all W _ _ _ (out_of o) xs _ s V h in
    record { value = done.0; world = done.1; out = done.2; room = c.push.ensures.room }

pub returns-in_default : goal.returns-in_default
returns-in_default g c =
    let m = g.M.Memory.model c.args.memory.now in
    let n = g.M.Memory.model c.turn-turned.new.memory in
    let W = world_of c.args.machine.now m in
    let i = c.args.thread in
    let xs = held c.args.out.now in
    let runs = asked _ _ c.in_ok-require.field-0 (sym c.require.ensures ∙ c.in_ok-require.was) ∙ c.runs.ensures in
    let e : c.map_err.result ≡ faulted c.args.thread c.turn-turned.result = search rules in
    let o = c.in_ok-outcome.outcome in
    let t = sym c.in_ok-outcome.was ∙ e in
    let s = step_taken (program_of c.args.table.now) _ c.args.machine.now m i c.all-threads.result.now c.free-free.result c.all-threads.ensures.value c.free-free.ensures runs n c.turn-turned.result o t c.turn-turned.ensures.value in
    let V = ap (λ (ts : List Task). record { tasks = ts; memory = n }) c.commit.ensures in
    let done = taken_all W _ _ _ (out_of o) xs _ s V (ap (listed xs) c.in_default.ensures) in
    record { value = done.0; world = done.1; out = done.2; room = refl }

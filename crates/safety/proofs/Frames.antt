-- Calls, forks, returns and again.
use Rattle.std.proofs.Common.{◌≡◌, ℕ, suc, List, [], ◌∷◌, sym, refl, ap, ◌∙◌, subst, arith}
use mathlib.Core.Path.{fun_ext}
use Rattle.machine.specs.declared.threads.Slot.{Slot}
use Rattle.safety.specs.Model.{alias, owned, pristine, Claim, num, pt, Structs, Heap, Slots, Spot, Entry, here, Place, at, cell, put, name, own, Inv}
use Rattle.safety.specs.Fields.{Flows}
use Rattle.safety.specs.Frames.{Arg, kept, leave, arrive, passed, passed_all, Ready, Later, AllReady}
use Rattle.safety.proofs.Update.{put_off, at_inj}
use Rattle.safety.proofs.Scope.{put_ind}
use Rattle.safety.proofs.Ops.{do_give, do_lend}

pub put_same : (σ : Slots) (x : Spot) (e : Entry) → σ x ≡ e → put σ x e ≡ σ
put_same σ x e h = fun_ext (put_ind (λ s y. y ≡ σ s) σ x e (sym h) (λ s n. refl))

pub later_ready : (σ : Slots) (a : Arg) (l : List Arg) → Later a l → AllReady σ l → AllReady (passed σ a) l
later_ready σ a [] k r = tt
later_ready σ a (b ∷ l) k r = (
  record {
    value = r.0.value;
    typed = r.0.typed;
    saved = r.0.saved;
    is = put_off (put σ a.source (leave a.type (σ a.source))) a.target (arrive a.type (σ a.source)) b.source k.1 ∙ put_off σ a.source (leave a.type (σ a.source)) b.source k.0 ∙ r.0.is;
    flows = r.0.flows;
    apart = r.0.apart;
  },
  r.1,
  later_ready σ a l k.2 r.2,
)

module _ (St : Structs) where
  one_pass : (σ : Slots) (H : Heap) (x z : Spot) (v : Slot) (t t' : Claim) (ts : List Claim) → Inv St σ H → ¬ (z ≡ x) → σ x ≡ here v t ts → Flows t t'
      → Inv St (put (put σ x (here (kept t' v) t ts)) z (here v t' [])) H
  one_pass σ H x z v t num ts inv n e f = subst (λ (a : Slots). Inv St (put a z (here v num [])) H) (sym (put_same σ x (here v t ts) e)) (do_lend St σ H z x v t num ts inv e f refl)
  one_pass σ H x z v t (pt alias s w) ts inv n e f = subst (λ (a : Slots). Inv St (put a z (here v (pt alias s w) [])) H) (sym (put_same σ x (here v t ts) e)) (do_lend St σ H z x v t (pt alias s w) ts inv e f refl)
  one_pass σ H x z v t (pt owned s w) ts inv n e f = do_give St σ H z x v t (pt owned s w) ts inv n e f (omega arith)
  one_pass σ H x z v t (pt pristine s w) ts inv n e f = do_give St σ H z x v t (pt pristine s w) ts inv n e f (omega arith)

  pub pass : (σ : Slots) (H : Heap) (a : Arg) → Inv St σ H → Ready σ a → Inv St (passed σ a) H
  pass σ H a inv r = subst (λ (e : Entry). Inv St (put (put σ a.source (leave a.type e)) a.target (arrive a.type e)) H) (sym r.is)
      (one_pass σ H a.source a.target r.value r.typed a.type r.saved inv r.apart r.is r.flows)

  -- the arguments of a call, a fork or again
  pub pass_all : (σ : Slots) (H : Heap) (l : List Arg) → Inv St σ H → AllReady σ l → Inv St (passed_all σ l) H
  pass_all σ H [] inv r = inv
  pass_all σ H (a ∷ l) inv r = pass_all (passed σ a) H l (pass σ H a inv r.0) (later_ready σ a l r.1 r.2)

  -- slots under other numbers
  pub rename : (σ : Slots) (H : Heap) (ρ : Spot → Spot) → ((s t : Spot) → ρ s ≡ ρ t → s ≡ t) → Inv St σ H → Inv St (λ s. σ (ρ s)) H
  rename σ H ρ inj inv = record {
    slots = λ s. inv.slots (ρ s);
    cells = inv.cells;
    unique = λ p q o h j. back p q (inv.unique (to p) (to q) o (owns p o h) (owns q o j));
    sole = λ s p o h j. back p (at s) (inv.sole (ρ s) (to p) o h (names p o j));
  }
    where
      to : Place → Place
      to (at s) = at (ρ s)
      to (cell p f) = cell p f

      back : (p q : Place) → to p ≡ to q → p ≡ q
      back (at s) (at t) e = ap at (inj s t (at_inj e))
      back (at s) (cell p f) e = let z : ◌≡◌ {A = ℕ} 0 1 = cc in let y : ⊥ = omega arith in absurd y
      back (cell p f) (at t) e = let z : ◌≡◌ {A = ℕ} 0 1 = cc in let y : ⊥ = omega arith in absurd y
      back (cell p f) (cell q g) e = e

      owns : (p : Place) (o : ℕ) → own St (λ s. σ (ρ s)) H p ≡ suc o → own St σ H (to p) ≡ suc o
      owns (at s) o h = h
      owns (cell p f) o h = h

      names : (p : Place) (o : ℕ) → name St (λ s. σ (ρ s)) H p ≡ suc o → name St σ H (to p) ≡ suc o
      names (at s) o h = h
      names (cell p f) o h = h

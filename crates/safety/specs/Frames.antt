-- Calls, forks, returns and again: values that go to other slots together, and slots under other numbers.
use Rattle.std.specs.Prelude.{◌≡◌, List, [], ◌∷◌}
use Rattle.machine.specs.declared.threads.Slot.{Slot}
use Rattle.machine.specs.declared.threads.Slot.TheVariants.{Null}
use Rattle.safety.specs.Model.{alias, owned, pristine, Claim, num, pt, Spot, Slots, Entry, out, here, put}
use Rattle.safety.specs.Fields.{Flows}

pub record Arg : Type 0 where
  pub source : Spot
  pub target : Spot
  pub type : Claim

-- what is left where a value came from that went to a place of this type, and what arrives
abbrev pub kept : Claim → Slot → Slot
kept num v = v
kept (pt alias s w) v = v
kept (pt owned s w) v = Null
kept (pt pristine s w) v = Null

abbrev pub leave : Claim → Entry → Entry
leave t out = out
leave t (here v u us) = here (kept t v) u us

abbrev pub arrive : Claim → Entry → Entry
arrive t out = out
arrive t (here v u us) = here v t []

abbrev pub passed : Slots → Arg → Slots
passed σ a = put (put σ a.source (leave a.type (σ a.source))) a.target (arrive a.type (σ a.source))

abbrev pub passed_all : Slots → List Arg → Slots
passed_all σ [] = σ
passed_all σ (a ∷ l) = passed_all (passed σ a) l

pub record Ready (σ : Slots) (a : Arg) : Type 0 where
  pub value : Slot
  pub typed : Claim
  pub saved : List Claim
  pub is : σ a.source ≡ here value typed saved
  pub flows : Flows typed a.type
  pub apart : ¬ (a.target ≡ a.source)

-- each argument is ready, comes from another slot than those before it, and from none that one before it went to
abbrev pub Later : Arg → List Arg → Type 0
Later a [] = Unit {0}
Later a (b ∷ l) = ¬ (b.source ≡ a.source) × ¬ (b.source ≡ a.target) × Later a l

abbrev pub AllReady : Slots → List Arg → Type 0
AllReady σ [] = Unit {0}
AllReady σ (a ∷ l) = Ready σ a × Later a l × AllReady σ l

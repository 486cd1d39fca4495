-- What a call, a fork, a return and again do to the frames.
use Rattle.std.specs.Prelude.{◌≡◌, ℕ, suc, List, [], ◌∷◌, slice_index_or, slice_set}
use Rattle.machine.specs.declared.threads.Slot.{Slot}
use Rattle.machine.specs.declared.threads.Slot.TheVariants.{Empty}
use Rattle.safety.specs.Model.{Claim, spot}
use Rattle.safety.specs.Frames.{Arg, kept}

-- the arguments: slots of the frame (i, j), with the types of the parameters, which are slots k, k + 1, .. of the frame (i', j')
abbrev pub args_to : ℕ → ℕ → ℕ → ℕ → ℕ → List (ℕ × Claim) → List Arg
args_to i j i' j' k [] = []
args_to i j i' j' k (a ∷ l) = record { source = spot i j a.0; target = spot i' j' k; type = a.1 } ∷ args_to i j i' j' (suc k) l

-- what the arguments leave, and what they bring
abbrev pub spend_vals : List Slot → List (ℕ × Claim) → List Slot
spend_vals vs [] = vs
spend_vals vs (a ∷ l) = spend_vals (slice_set vs a.0 (kept a.1 (slice_index_or vs a.0 Empty))) l

abbrev pub given_vals : List Slot → List (ℕ × Claim) → List Slot → List Slot
given_vals vs [] rest = rest
given_vals vs (a ∷ l) rest = slice_index_or vs a.0 Empty ∷ given_vals vs l rest

abbrev pub param_scope : List (ℕ × Claim) → List (List Claim)
param_scope [] = []
param_scope (a ∷ l) = (a.1 ∷ []) ∷ param_scope l

-- one frame
abbrev pub IsFrame : ℕ → ℕ → ℕ → ℕ → Type 0
IsFrame a b i j = (a ≡ i) × (b ≡ j)

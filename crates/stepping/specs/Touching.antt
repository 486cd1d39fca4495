-- What two threads touch.
use Rattle.std.specs.Prelude.{ℕ, Bool, ◌&&◌, Some, Option, ◌==◌}
use Rattle.std.specs.Option.{option_eq}

-- a thread that touches w touches the field of the object t
abbrev pub touches_too : ℕ × ℕ → Option (ℕ × ℕ) → Bool
touches_too t w = option_eq (λ x y. x.0 == y.0 && x.1 == y.1) w (Some t)

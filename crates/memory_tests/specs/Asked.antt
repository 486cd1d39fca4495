-- What a memory answers to a question, and what is left.
use Rattle.std.specs.Prelude.{ℕ, Bool, false, Ok, Result}
use Rattle.table.specs.declared.fault.Fault.{Fault}
use Rattle.table.specs.Faults.{◌>>=◌}
use Rattle.memory.specs.Model.{Store, count_of, kind_of, load_of, add_of, after_add, store_of, after_store, exchange_of, after_exchange}
use Rattle.memory_tests.specs.declared.asking.Question.{Question}
use Rattle.memory_tests.specs.declared.asking.Question.TheVariants.{Capacity, Count, Kind, Load, Add, Store as Put, Exchange}

abbrev pub answer_of : Store → Question → Result (ℕ × Bool) Fault
answer_of m Capacity = Ok (m.capacity, false)
answer_of m Count = Ok (count_of m, false)
answer_of m (Kind o) = kind_of m o >>= λ k. Ok (k, false)
answer_of m (Load o c) = load_of m o c >>= λ v. Ok (v.word, v.mark)
answer_of m (Add k) = add_of m k >>= λ o. Ok (o, false)
answer_of m (Put o c w) = store_of m o c w >>= λ _. Ok (0, false)
answer_of m (Exchange o c e w k) = exchange_of m o c e w >>= λ yes. Ok (0, yes)

abbrev pub after_asking : Store → Question → Store
after_asking m Capacity = m
after_asking m Count = m
after_asking m (Kind o) = m
after_asking m (Load o c) = m
after_asking m (Add k) = after_add m k
after_asking m (Put o c w) = after_store m o c w
after_asking m (Exchange o c e w k) = after_exchange m o c e w k

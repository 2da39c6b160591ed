-- Internal: one answer behind another: what each reader and each call is made of.
use Rattle.std.specs.Prelude.{Result, Ok, Err}

-- what is answered, then what `next` answers behind it; an error stays
abbrev pub and_then : {A B E : Type 0} → Result A E → (A → Result B E) → Result B E
and_then (Ok x) next = next x
and_then (Err e) next = Err e

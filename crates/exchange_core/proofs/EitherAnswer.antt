-- What holds after each answer holds after the answer.
use Rattle.std.specs.Prelude.{Result, Ok, Err, OnOk, OnErr}

pub on_either : {X Y : Type 0} (r : Result X Y) (P Q C : Type 0) → OnOk r P → OnErr r Q → (P → C) → (Q → C) → C
on_either (Ok x) P Q C p q f k = f p
on_either (Err y) P Q C p q f k = k q

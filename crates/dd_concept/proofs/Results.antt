-- What is known of a call that answers a known value where it is Ok.
use Rattle.std.proofs.Common.{◌≡◌, Result, Ok, Err, IfOk, subst, sym}

pub ok_at : {T E : Type 0} (P : T → Type 0) (r : Result T E) (x : T) → IfOk r (λ y. y ≡ x) → P x → IfOk r P
ok_at P (Ok y) x e h = subst P (sym e) h
ok_at P (Err f) x e h = tt

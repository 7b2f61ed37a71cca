-- What a buffer holds from one place to another, when bytes are written behind it.
use Rattle.std.proofs.Common.{◌≡◌, ℕ, ◌+◌, ◌<◌, ◌≤◌, List, [], ◌∷◌, ◌++◌, length, take, drop, refl, sym, ap, ◌∙◌, arith, min}
use Rattle.std.proofs.Math.Seq.{take-add}
use Rattle.std.proofs.lemmas.List.{length-take-le, drop-append-le, take_at, take-append-drop, drop-drop}
use Rattle.dd_lines.specs.Reading.{Reading}

-- the held bytes, and then the bytes behind them
pub held_grows : (start end n : ℕ) (old new : List ℕ) → start ≤ end → end ≤ length new → take end new ≡ take end old
    → drop start (take (end + n) new) ≡ drop start (take end old) ++ take n (drop end new)
held_grows start end n old new h k e =
    let fits : start ≤ length (take end new) = omega (arith, length-take-le end new k) in
    ap (drop start) (take-add end n new) ∙ drop-append-le start (take end new) (take n (drop end new)) fits
    ∙ ap (λ xs. drop start xs ++ take n (drop end new)) e

-- a reading with other held bytes and another count
pub reading-held-taken : (r : Reading) (xs ys : List ℕ) (m n : ℕ) → xs ≡ ys → m ≡ n
    → record r { held = xs; taken = m } ≡ record r { held = ys; taken = n }
reading-held-taken r xs ys m n e f =
    let P : List ℕ → Reading = λ zs. record r { held = zs; taken = m } in
    let Q : ℕ → Reading = λ k. record r { held = ys; taken = k } in
    ap P e ∙ ap Q f

no_items : (xs : List ℕ) → length xs ≡ 0 → xs ≡ []
no_items [] h = refl
no_items (x ∷ xs) h = absurd (omega arith)

-- the next bytes were copied into the front of the room, as many as a piece, the room and the bytes allow
pub copied_front : (at n piece : ℕ) (bytes room copy : List ℕ) → copy ≡ take n (drop at bytes)
    → n ≡ min (min (length (drop at bytes)) piece) (length room) → 0 < piece → 0 < length room
    → (drop at bytes ≡ take n (copy ++ drop n room) ++ drop (at + n) bytes) × (n ≡ 0 → drop at bytes ≡ [])
copied_front at n piece bytes room copy e m p r =
    let within : n ≤ length (drop at bytes) = omega arith in
    let size : length copy ≡ n = ap length e ∙ length-take-le n (drop at bytes) within in
    let front : take n (copy ++ drop n room) ≡ take n (drop at bytes) = take_at copy (drop n room) n size ∙ e in
    let all : drop at bytes ≡ take n (drop at bytes) ++ drop (at + n) bytes =
    sym (take-append-drop n (drop at bytes)) ∙ ap (λ v. take n (drop at bytes) ++ v) (drop-drop n at bytes) in
    (all ∙ ap (λ v. v ++ drop (at + n) bytes) (sym front), λ z. no_items (drop at bytes) (omega arith))

-- Pieces that are written one after the other.
use Rattle.std.proofs.Common.{◌≡◌, ◌∙◌, ◌++◌, ℕ, List, [], ◌∷◌, codes, ap, refl, sym}
use Rattle.std.proofs.lemmas.List.{append_assoc, append-nil}
use Rattle.dd_gen.specs.Written.{braced, bracketed, member, quoted, with_commas}

pub later : (o p a r : List ℕ) → r ≡ o ++ a → o ≡ p → r ≡ p ++ a
later o p a r e h = e ∙ ap (λ l. l ++ a) h

pub three : (o a b c o1 o2 o3 : List ℕ) → o1 ≡ o ++ a → o2 ≡ o1 ++ b → o3 ≡ o2 ++ c → o3 ≡ o ++ a ++ b ++ c
three o a b c o1 o2 o3 e f g = g ∙ ap (λ l. l ++ c) (f ∙ ap (λ l. l ++ b) e)

pub five : (o a b c d x o1 o2 o3 o4 o5 : List ℕ) → o1 ≡ o ++ a → o2 ≡ o1 ++ b → o3 ≡ o2 ++ c → o4 ≡ o3 ++ d → o5 ≡ o4 ++ x → o5 ≡ o ++ a ++ b ++ c ++ d ++ x
five o a b c d x o1 o2 o3 o4 o5 e f g h i = i ∙ ap (λ l. l ++ x) (h ∙ ap (λ l. l ++ d) (three o a b c o1 o2 o3 e f g))

pub seven : (o a b c d x y z o1 o2 o3 o4 o5 o6 o7 : List ℕ) → o1 ≡ o ++ a → o2 ≡ o1 ++ b → o3 ≡ o2 ++ c → o4 ≡ o3 ++ d → o5 ≡ o4 ++ x → o6 ≡ o5 ++ y → o7 ≡ o6 ++ z
    → o7 ≡ o ++ a ++ b ++ c ++ d ++ x ++ y ++ z
seven o a b c d x y z o1 o2 o3 o4 o5 o6 o7 e f g h i j k = k ∙ ap (λ l. l ++ z) (j ∙ ap (λ l. l ++ y) (five o a b c d x o1 o2 o3 o4 o5 e f g h i))

pub nine : (o a b c d x y z u v o1 o2 o3 o4 o5 o6 o7 o8 o9 : List ℕ) → o1 ≡ o ++ a → o2 ≡ o1 ++ b → o3 ≡ o2 ++ c → o4 ≡ o3 ++ d → o5 ≡ o4 ++ x → o6 ≡ o5 ++ y → o7 ≡ o6 ++ z
    → o8 ≡ o7 ++ u → o9 ≡ o8 ++ v → o9 ≡ o ++ a ++ b ++ c ++ d ++ x ++ y ++ z ++ u ++ v
nine o a b c d x y z u v o1 o2 o3 o4 o5 o6 o7 o8 o9 e f g h i j k l m =
    m ∙ ap (λ t. t ++ v) (l ∙ ap (λ t. t ++ u) (seven o a b c d x y z o1 o2 o3 o4 o5 o6 o7 e f g h i j k))

pub fork-pieces : (o left right : List ℕ) → o ++ codes "\"(implies " ++ left ++ codes " " ++ right ++ codes ")\"" ≡ o ++ quoted (codes "(implies " ++ left ++ codes " " ++ right ++ codes ")")
fork-pieces o left right = simp append_assoc

pub rule-pieces : (o p n : List ℕ) → o ++ codes "{\"from\":" ++ quoted p ++ codes ",\"source\":\"" ++ n ++ codes "\",\"target\":\"" ++ n ++ codes "\"}"
    ≡ o ++ braced (member (codes "from") (quoted p) ∷ member (codes "source") (quoted n) ∷ member (codes "target") (quoted n) ∷ [])
rule-pieces o p n = simp (append_assoc, append-nil)

pub two-rules : (o a c : List ℕ) → o ++ a ++ codes "," ++ c ≡ o ++ with_commas (a ∷ c ∷ [])
two-rules o a c = simp (append_assoc, append-nil)

pub peers-pieces : (names : List (List ℕ)) → [] ++ codes "{\"names\":[" ++ with_commas names ++ codes "],\"op\":\"peers\"}"
    ≡ braced (member (codes "names") (bracketed names) ∷ member (codes "op") (quoted (codes "peers")) ∷ [])
peers-pieces names = simp (append_assoc, append-nil)

pub ask-pieces : (left right q : List ℕ)
    → [] ++ codes "{\"left\":" ++ left ++ codes ",\"op\":\"ask\",\"peer\":" ++ q ++ codes ",\"right\":" ++ right ++ codes "}"
    ≡ braced (member (codes "left") left ∷ member (codes "op") (quoted (codes "ask")) ∷ member (codes "peer") q ∷ member (codes "right") right ∷ [])
ask-pieces left right q =
    let opening = codes "{\"left\":" in
    let middle = codes ",\"op\":\"ask\",\"peer\":" in
    let last = codes ",\"right\":" ++ right in
    simp (append_assoc, append-nil)
    (ap (λ l. opening ++ (left ++ (middle ++ l))) (sym (append_assoc q last (codes "}")))
    ∙ ap (λ l. opening ++ l) (sym (append_assoc left (middle ++ (q ++ last)) (codes "}"))))

pub put-pieces : (axioms into : List (List ℕ)) (onto q : List ℕ)
    → [] ++ codes "{\"axioms\":[" ++ with_commas axioms ++ codes "],\"into\":[" ++ with_commas into ++ codes "],\"onto\":[" ++ onto ++ codes "],\"op\":\"put\",\"peer\":" ++ q ++ codes "}"
    ≡ braced (member (codes "axioms") (bracketed axioms) ∷ member (codes "into") (bracketed into) ∷ member (codes "onto") (bracketed (onto ∷ [])) ∷ member (codes "op") (quoted (codes "put")) ∷ member (codes "peer") q ∷ [])
put-pieces axioms into onto q = simp (append_assoc, append-nil) refl

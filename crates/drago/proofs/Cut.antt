-- No made request has a line feed, so what is written is cut into them again.
use Rattle.std.proofs.Common.{◌≡◌, ◌∙◌, ℕ, zero, suc, ◌+◌, ◌-◌, ◌<◌, ◌≤◌, ◌==◌, ◌||◌, ◌%◌, ◌^◌, Bool, true, false, List, [], ◌∷◌, ◌++◌, codes, map, refl, ap, sym, subst, arith, eqb-true}
use Rattle.std.specs.Fmt.{decimal}
use Rattle.std.specs.List.{flat_map, range_with_len}
use Rattle.std.proofs.lemmas.List.{append_assoc}
use Rattle.std.proofs.lemmas.Fmt.{decimal-digits_of, decimal_digit}
use Rattle.std.specs.Int.Digits.{digits_of}
use Rattle.std.proofs.Math.Nat.{mod-lt}
use Rattle.dd_lines.specs.Lines.{has_feed, lines_of}
use Rattle.dd_lines.proofs.Feeds.{lines_of-feed, no_feed-append}
use Rattle.dd_gen.specs.Made.{ask_line, axioms_of, backward_line, before, broken_of, chain, fork, head_of, in_a, in_c, into_of, lines_of_make, onto_of, onward_line, peer_name, peers_line, put_line, put_text, rule}
use Rattle.dd_gen.specs.Written.{braced, bracketed, either, implies, member, numbered, quoted, with_commas}
use Rattle.dd_words.specs.Numbers.{IsGenerated}
use Rattle.dd_words.specs.declared.command.Generated.{Generated}
use Rattle.drago.specs.Made.{made_text, text_of}

-- a text without a line feed
abbrev Plain : List ℕ → Type 0
Plain text = has_feed text ≡ false

-- each of the texts is one
data AllPlain : List (List ℕ) → Type 0 where
  none : AllPlain []
  more : (t : List ℕ) (ts : List (List ℕ)) → Plain t → AllPlain ts → AllPlain (t ∷ ts)

both : (s t : List ℕ) → Plain s → Plain t → Plain (s ++ t)
both s t p q = no_feed-append s t p q

all-both : (ss ts : List (List ℕ)) → AllPlain ss → AllPlain ts → AllPlain (ss ++ ts)
all-both [] ts none q = q
all-both (s ∷ ss) ts (more _ _ p ps) q = more s (ss ++ ts) p (all-both ss ts ps q)

all-range : (f : ℕ → List ℕ) (a n : ℕ) → ((t : ℕ) → t < a + n → Plain (f t)) → AllPlain (map f (range_with_len a n))
all-range f a zero h = none
all-range f a (suc n) h = more (f a) (map f (range_with_len (a + 1) n)) (h a (omega arith)) (all-range f (a + 1) n (λ t lt. h t (omega (arith, lt))))

all-map : (f : List ℕ → List ℕ) (ts : List (List ℕ)) → ((t : List ℕ) → Plain t → Plain (f t)) → AllPlain ts → AllPlain (map f ts)
all-map f [] h none = none
all-map f (t ∷ ts) h (more _ _ p ps) = more (f t) (map f ts) (h t p) (all-map f ts h ps)

-- ---- the parts

rest : (ts : List (List ℕ)) → AllPlain ts → Plain (flat_map (λ y. codes "," ++ y) ts)
rest [] none = refl
rest (t ∷ ts) (more _ _ p ps) = both (codes "," ++ t) (flat_map (λ y. codes "," ++ y) ts) (both (codes ",") t refl p) (rest ts ps)

commas : (ts : List (List ℕ)) → AllPlain ts → Plain (with_commas ts)
commas [] none = refl
commas (t ∷ ts) (more _ _ p ps) = both t (flat_map (λ y. codes "," ++ y) ts) p (rest ts ps)

quote : (t : List ℕ) → Plain t → Plain (quoted t)
quote t p = both t (34 ∷ []) p refl

bracket : (ts : List (List ℕ)) → AllPlain ts → Plain (bracketed ts)
bracket ts ps = both (with_commas ts) (93 ∷ []) (commas ts ps) refl

brace : (ts : List (List ℕ)) → AllPlain ts → Plain (braced ts)
brace ts ps = both (with_commas ts) (125 ∷ []) (commas ts ps) refl

named : (name value : List ℕ) → Plain name → Plain value → Plain (member name value)
named name value p q = both (quoted name) (58 ∷ value) (quote name p) q

off : (n : ℕ) (b : Bool) → (n == 10) ≡ b → 10 < n → b ≡ false
off n true e lt = let same = eqb-true n 10 e in absurd (omega (arith, same, lt))
off n false e lt = refl

digits : (ds : List ℕ) → Plain (map (λ d. 48 + d) ds)
digits [] = refl
digits (d ∷ ds) = ap (λ (b : Bool). b || has_feed (map (λ e. 48 + e) ds)) (off (48 + d) (48 + d == 10) refl (omega arith)) ∙ digits ds

number : (n : ℕ) → n < 2 ^ 64 → Plain (decimal n)
number zero lt = subst Plain (sym (decimal_digit 0 (omega arith))) refl
number (suc n) lt = subst Plain (sym (decimal-digits_of (suc n) (omega arith) lt)) (digits (digits_of 10 (suc n)))

counted : (word : List ℕ) (n : ℕ) → Plain word → n < 2 ^ 64 → Plain (numbered word n)
counted word n p lt = both word (decimal n) p (number n lt)

-- two texts between three
among : (a b c left right : List ℕ) → Plain a → Plain b → Plain c → Plain left → Plain right → Plain (a ++ left ++ b ++ right ++ c)
among a b c left right pa pb pc p q = both (a ++ left ++ b ++ right) c (both (a ++ left ++ b) right (both (a ++ left) b (both a left pa p) pb) q) pc

one_or : (left right : List ℕ) → Plain left → Plain right → Plain (either left right)
one_or left right p q = among (codes "(or ") (codes " ") (codes ")") left right refl refl refl p q

under : (left right : List ℕ) → Plain left → Plain right → Plain (implies left right)
under left right p q = among (codes "(implies ") (codes " ") (codes ")") left right refl refl refl p q

-- ---- the requests

a-plain : (t : ℕ) → t < 2 ^ 64 → Plain (in_a t)
a-plain t lt = counted (codes "A") t refl lt

c-plain : (t : ℕ) → t < 2 ^ 64 → Plain (in_c t)
c-plain t lt = counted (codes "C") t refl lt

name-plain : (i : ℕ) → i < 2 ^ 64 → Plain (quoted (peer_name i))
name-plain i lt = quote (peer_name i) (counted (codes "p") i refl lt)

either-plain : (size : ℕ) → size ≤ 1000 → Plain (either (in_a size) (in_c size))
either-plain size le = one_or (in_a size) (in_c size) (a-plain size (omega (arith, le))) (c-plain size (omega (arith, le)))

chain-plain : (letter : List ℕ) (count : ℕ) → Plain letter → count ≤ 1000 → AllPlain (chain letter count)
chain-plain letter count p le = all-range (λ t. implies (numbered letter t) (numbered letter (t + 1))) 0 count
    (λ t lt. under (numbered letter t) (numbered letter (t + 1)) (counted letter t p (omega (arith, lt, le))) (counted letter (t + 1) p (omega (arith, lt, le))))

axioms-plain : (is_head : Bool) (size : ℕ) → size ≤ 1000 → AllPlain (axioms_of is_head size)
axioms-plain true size le = all-both (chain (codes "A") (size - 1)) (fork size ∷ []) (chain-plain (codes "A") (size - 1) refl (omega (arith, le)))
    (more (fork size) [] (under (in_a (size - 1)) (either (in_a size) (in_c size)) (a-plain (size - 1) (omega (arith, le))) (either-plain size le)) none)
axioms-plain false size le = chain-plain (codes "B") size refl le

rule-plain : (from : ℕ) (concept : List ℕ) → from < 2 ^ 64 → Plain concept → Plain (rule from concept)
rule-plain from concept lt p =
    let a = named (codes "from") (quoted (peer_name from)) refl (name-plain from lt) in
    let b = named (codes "source") (quoted concept) refl (quote concept p) in
    let c = named (codes "target") (quoted concept) refl (quote concept p) in
    brace (member (codes "from") (quoted (peer_name from)) ∷ member (codes "source") (quoted concept) ∷ member (codes "target") (quoted concept) ∷ [])
    (more _ _ a (more _ _ b (more _ _ c none)))

into-plain : (is_broken : Bool) (size from : ℕ) → size ≤ 1000 → from < 2 ^ 64 → AllPlain (into_of is_broken size from)
into-plain true size from le lt = more _ _ (rule-plain from (in_a size) lt (a-plain size (omega (arith, le)))) none
into-plain false size from le lt = more _ _ (rule-plain from (in_a size) lt (a-plain size (omega (arith, le)))) (more _ _ (rule-plain from (in_c size) lt (c-plain size (omega (arith, le)))) none)

peers-plain : (peers : ℕ) → peers ≤ 64 → Plain (peers_line peers)
peers-plain peers le =
    let names = all-range (λ i. quoted (peer_name i)) 0 peers (λ t lt. name-plain t (omega (arith, lt, le))) in
    brace (member (codes "names") (bracketed (map (λ i. quoted (peer_name i)) (range_with_len 0 peers))) ∷ member (codes "op") (quoted (codes "peers")) ∷ [])
    (more _ _ (named (codes "names") (bracketed (map (λ i. quoted (peer_name i)) (range_with_len 0 peers))) refl (bracket _ names)) (more _ _ (named (codes "op") (quoted (codes "peers")) refl refl) none))

put-plain : (is_head is_broken : Bool) (size from i : ℕ) → size ≤ 1000 → from < 2 ^ 64 → i < 2 ^ 64 → Plain (put_text is_head is_broken size from i)
put-plain is_head is_broken size from i le lt is =
    let axioms = bracket (map quoted (axioms_of is_head size)) (all-map quoted (axioms_of is_head size) quote (axioms-plain is_head size le)) in
    let into = bracket (into_of is_broken size from) (into-plain is_broken size from le lt) in
    let onto = bracket (onto_of from) (more _ _ (rule-plain from (in_a 0) lt (a-plain 0 (omega arith))) none) in
    brace (member (codes "axioms") (bracketed (map quoted (axioms_of is_head size))) ∷ member (codes "into") (bracketed (into_of is_broken size from)) ∷ member (codes "onto") (bracketed (onto_of from))
    ∷ member (codes "op") (quoted (codes "put")) ∷ member (codes "peer") (quoted (peer_name i)) ∷ [])
    (more _ _ (named (codes "axioms") (bracketed (map quoted (axioms_of is_head size))) refl axioms) (more _ _ (named (codes "into") (bracketed (into_of is_broken size from)) refl into)
    (more _ _ (named (codes "onto") (bracketed (onto_of from)) refl onto) (more _ _ (named (codes "op") (quoted (codes "put")) refl refl) (more _ _ (named (codes "peer") (quoted (peer_name i)) refl (name-plain i is)) none)))))

ask-plain : (left right : List ℕ) (i : ℕ) → Plain left → Plain right → i < 2 ^ 64 → Plain (ask_line left right i)
ask-plain left right i p q is =
    brace (member (codes "left") (quoted left) ∷ member (codes "op") (quoted (codes "ask")) ∷ member (codes "peer") (quoted (peer_name i)) ∷ member (codes "right") (quoted right) ∷ [])
    (more _ _ (named (codes "left") (quoted left) refl (quote left p)) (more _ _ (named (codes "op") (quoted (codes "ask")) refl refl)
    (more _ _ (named (codes "peer") (quoted (peer_name i)) refl (name-plain i is)) (more _ _ (named (codes "right") (quoted right) refl (quote right q)) none))))

-- a number of another peer is small
small : (k peers : ℕ) → 0 < peers → peers ≤ 64 → k % peers < 2 ^ 64
small k peers some le = let lt = mod-lt k some in omega (arith, lt, le)

made-plain : (seed peers size : ℕ) → 2 ≤ peers → peers ≤ 64 → size ≤ 1000 → AllPlain (lines_of_make seed peers size)
made-plain seed peers size some le few =
    more (peers_line peers) _ (peers-plain peers le)
    (all-both (map (put_line seed peers size) (range_with_len 0 peers) ++ map (onward_line size) (range_with_len 0 peers)) (map (backward_line size) (range_with_len 0 peers))
    (all-both (map (put_line seed peers size) (range_with_len 0 peers)) (map (onward_line size) (range_with_len 0 peers))
    (all-range (put_line seed peers size) 0 peers (λ i lt. put-plain (i == head_of seed peers) (i == broken_of seed peers) size (before peers i) i few (small (i + peers - 1) peers (omega (arith, some)) le) (omega (arith, lt, le))))
    (all-range (onward_line size) 0 peers (λ i lt. ask-plain (in_a 0) (either (in_a size) (in_c size)) i (a-plain 0 (omega arith)) (either-plain size few) (omega (arith, lt, le)))))
    (all-range (backward_line size) 0 peers (λ i lt. ask-plain (in_a size) (in_a 0) i (a-plain size (omega (arith, few))) (a-plain 0 (omega arith)) (omega (arith, lt, le)))))

cut : (lines : List (List ℕ)) → AllPlain lines → lines_of (text_of lines) ≡ lines
cut [] none = refl
cut (l ∷ ls) (more _ _ p ps) =
    ap lines_of (append_assoc l (10 ∷ []) (text_of ls)) ∙ lines_of-feed l (text_of ls) p ∙ ap (λ ms. l ∷ ms) (cut ls ps)

pub made_lines_cut : (g : Generated) → IsGenerated g → lines_of (made_text g) ≡ lines_of_make g.seed g.peers g.size
made_lines_cut g is = cut (lines_of_make g.seed g.peers g.size) (made-plain g.seed g.peers g.size is.peers.0 is.peers.1 is.size.1)

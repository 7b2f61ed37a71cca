-- The lines that were written down are those of a right Closed verdict.
use Rattle.std.proofs.Common.{◌≡◌, ◌∙◌, ◌<◌, ◌≤◌, ◌+◌, ◌++◌, sym, refl, ap, ap₂, subst, ℕ, zero, suc, true, List, [], ◌∷◌, All, length, map, take, slice_get, get_or, Some, arith}
use Rattle.std.specs.Option.{option_map}
use Rattle.std.proofs.lemmas.Option.{same_Some, slice_get-get_or, slice_get-map, slice_get_within, get_or_from_slice_get}
use Rattle.std.proofs.lemmas.List.{length-map, map-append}
use Rattle.std.proofs.lemmas.List.Elements.{All-nil}
use Rattle.std.proofs.Math.Seq.{take-suc}
use Rattle.dd_concept.specs.declared.concept.Concept.{Concept}
use Rattle.dd_concept.specs.Closed.{IsClosedFor}
use Rattle.dd_concept.specs.Same.{is_within}
use Rattle.dd_concept.proofs.Sets.{within-from}
use Rattle.dd_graph.specs.View.{GraphView, concepts_in, props_at}
use Rattle.dd_graph.proofs.Lists.{get_push, place_at as item}
use Rattle.dd_peer.specs.declared.version.Pinned.{Pinned}
use Rattle.dd_peer.specs.declared.version.PeerVersion.{PeerVersion}
use Rattle.dd_rules.specs.Closure.{are_distinct}
use Rattle.dd_rules.specs.Least.{Implies}
use Rattle.dd_rules.proofs.Numbered.{at-within}
use Rattle.dd_set.specs.Marked.{is_among}
use Rattle.dd_set.specs.Sets.{numbers}
use Rattle.dd_set.specs.Words.{has, IsPacked}
use Rattle.dd_set.proofs.Arrivals.{among-at}
use Rattle.dd_set.proofs.Rising.{among-numbers}
use Rattle.dd_task.specs.Claims.{Claim, claim_of}
use Rattle.dd_task.specs.declared.line.Line.{Line}
use Rattle.dd_task.specs.declared.line.Prop.{Prop}
use Rattle.dd_task.specs.Goals.{claims_of_view}
use Rattle.dd_task.specs.Lines.{gives_reason, is_right, is_there}
use Rattle.dd_task.specs.Rules.{all_onto}
use Rattle.dd_task.specs.Verdicts.{IsRightClosedBy, cites_view, cuts_target}
use Rattle.dd_close.specs.Writes.{AreWritten, IsLineOf, IsVersionOf, claim_at, claims_before}
use Rattle.dd_close.proofs.Writing.{in-label, within-covers}

-- the numbers of a label are below its width
pub numbers-below : (width : ℕ) (l ns : List ℕ) → IsPacked width l → ns ≡ numbers l width → All (λ n. n < width) ns
numbers-below width l ns packed is k d lt =
    let at : slice_get ns k ≡ Some (get_or ns k d) = slice_get-get_or ns k d lt in
    let zero_at : get_or ns k 0 ≡ get_or ns k d = get_or_from_slice_get ns k (get_or ns k d) 0 at in
    let among : is_among (get_or ns k d) ns ≡ true = ap (λ n. is_among n ns) (sym zero_at) ∙ among-at ns k lt in
    packed.within (get_or ns k d) (sym (among-numbers width l (get_or ns k d) packed) ∙ ap (is_among (get_or ns k d)) (sym is) ∙ among)

All-push : {A : Type 0} (P : A → Type 0) (xs : List A) (x : A) → All P xs → P x → All P (xs ++ x ∷ [])
All-push P [] x all h zero d lt = h
All-push P [] x all h (suc k) d lt = absurd (omega (arith, lt))
All-push P (y ∷ ys) x all h zero d lt = all zero d (omega arith)
All-push P (y ∷ ys) x all h (suc k) d lt = All-push P ys x (λ i e l. all (suc i) e (omega (arith, l))) h k d (omega (arith, lt))

take-front : {A : Type 0} (xs ys : List A) (k : ℕ) → k ≤ length xs → take k (xs ++ ys) ≡ take k xs
take-front [] [] zero le = refl
take-front [] (y ∷ ys) zero le = refl
take-front [] ys (suc k) le = absurd (omega (arith, le))
take-front (x ∷ xs) ys zero le = refl
take-front (x ∷ xs) ys (suc k) le = ap (λ l. x ∷ l) (take-front xs ys k (omega (arith, le)))

take-all : {A : Type 0} (xs : List A) → take (length xs) xs ≡ xs
take-all [] = refl
take-all (x ∷ xs) = ap (λ l. x ∷ l) (take-all xs)

length-taken : {A : Type 0} (xs : List A) (n : ℕ) → n ≤ length xs → length (take n xs) ≡ n
length-taken [] zero le = refl
length-taken [] (suc n) le = absurd (omega (arith, le))
length-taken (x ∷ xs) zero le = refl
length-taken (x ∷ xs) (suc n) le = ap suc (length-taken xs n (omega (arith, le)))

get-taken : {A : Type 0} (xs : List A) (k m : ℕ) → m < k → slice_get (take k xs) m ≡ slice_get xs m
get-taken [] zero m lt = refl
get-taken [] (suc k) m lt = refl
get-taken (x ∷ xs) zero m lt = absurd (omega (arith, lt))
get-taken (x ∷ xs) (suc k) zero lt = refl
get-taken (x ∷ xs) (suc k) (suc m) lt = get-taken xs k m (omega (arith, lt))

module _ (p : Pinned) (peer : ℕ) (view : List Prop) (version : PeerVersion) (v : GraphView) (labels : List (List ℕ)) where
  pub written-start : AreWritten p peer view v labels 0 []
  written-start = record {
    claims = start labels;
    right = λ i x e. cc;
    own = All-nil (λ (line : Line). line.peer ≡ peer);
    inside = All-nil (λ (line : Line). is_within line.label v.closure.concepts ≡ true);
    cuts = All-nil (λ (line : Line). cuts_target (all_onto p peer) line.why ≡ true);
    bridges = All-nil (λ (line : Line). cites_view view line.why ≡ true);
  }
    where
      start : (ls : List (List ℕ)) → map claim_of [] ≡ map (claim_at v peer) (take 0 ls)
      start [] = refl
      start (l ∷ ls) = refl

  pub written-next : IsVersionOf p peer version → (k : ℕ) (lines more : List Line) (line : Line) → AreWritten p peer view v labels k lines → IsLineOf p peer view version v labels k line
      → more ≡ lines ++ line ∷ [] → AreWritten p peer view v labels (k + 1) more
  written-next is_version k lines more line h one longer = subst (AreWritten p peer view v labels (k + 1)) (sym longer) (record {
    claims = map-append claim_of lines (line ∷ [])
        ∙ ap (λ cs. cs ++ claim_of line ∷ []) h.claims
        ∙ ap (λ c. map (claim_at v peer) (take k labels) ++ c ∷ []) claim_is
        ∙ sym (map-append (claim_at v peer) (take k labels) (one.words ∷ []))
        ∙ ap (map (claim_at v peer)) (sym longer_labels);
    right = get_push (λ i x. is_right p (claims_of_view p peer view ++ map claim_of (take i (lines ++ line ∷ []))) x ≡ true) lines line
        (λ i x e. ap (λ ls. is_right p (claims_of_view p peer view ++ map claim_of ls) x) (take-front lines (line ∷ []) i (omega (arith, slice_get_within lines i x e))) ∙ h.right i x e)
        (ap (λ ls. is_right p (claims_of_view p peer view ++ map claim_of ls) line) (take-front lines (line ∷ []) (length lines) (omega arith) ∙ take-all lines)
        ∙ ap (λ cs. is_right p (claims_of_view p peer view ++ cs) line) h.claims ∙ right_line);
    own = All-push (λ (x : Line). x.peer ≡ peer) lines line h.own one.own;
    inside = All-push (λ (x : Line). is_within x.label v.closure.concepts ≡ true) lines line h.inside
        (ap (λ l. is_within l v.closure.concepts) one.label ∙ within-from (concepts_in v one.words) v.closure.concepts (λ d e. at-within v.closure.concepts (has one.words) d e));
    cuts = All-push (λ (x : Line). cuts_target (all_onto p peer) x.why ≡ true) lines line h.cuts one.why_is.cuts;
    bridges = All-push (λ (x : Line). cites_view view x.why ≡ true) lines line h.bridges one.why_is.bridges;
  })
    where
      claim_is : claim_of line ≡ claim_at v peer one.words
      claim_is = ap₂ (λ (a : ℕ) (b : List Concept). record { peer = a; label = b }) one.own one.label

      longer_labels : take (k + 1) labels ≡ take k labels ++ one.words ∷ []
      longer_labels = ap (λ n. take n labels) step ∙ take-suc labels k one.words (slice_get_within labels k one.words one.there)
          ∙ ap (λ w. take k labels ++ w ∷ []) (get_or_from_slice_get labels k one.words one.words one.there)
        where
          step : k + 1 ≡ suc k
          step = omega arith

      right_line : is_right p (claims_before p peer view v labels k) line ≡ true
      right_line =
          ap (λ o. is_there o (λ x. gives_reason p (claims_before p peer view v labels k) line.peer x line.label line.why)) (ap (slice_get p.peers) one.own ∙ is_version.is_it)
          ∙ ap₂ (λ (a : ℕ) (b : List Concept). gives_reason p (claims_before p peer view v labels k) a version b line.why) one.own one.label ∙ one.why_is.right

  module _ (distinct : are_distinct v.closure.concepts ≡ true) (closed : IsClosedFor v.closure.axioms (props_at v) v.closure.concepts) where
    pub written-end : (last : ℕ) (lines : List Line) (words goal : List ℕ) → AreWritten p peer view v labels (last + 1) lines → slice_get labels last ≡ Some words → Implies (has words) (has goal)
        → IsRightClosedBy p peer view v.closure.concepts (concepts_in v goal) lines
    written-end last lines words goal h at within = record {
      right = h.right;
      own = h.own;
      inside = h.inside;
      cuts = h.cuts;
      bridges = h.bridges;
      last = record {
        line = found.0;
        is_last = ap (slice_get lines) (omega (arith, count)) ∙ found.1;
        at_peer = ap (λ (c : Claim). c.peer) same;
        within = ap (λ (c : Claim). is_within c.label (concepts_in v goal)) same
            ∙ within-covers p peer view version v distinct closed labels last goal words (has goal) (concepts_in v goal) within (in-label p peer view version v distinct closed labels last goal);
      };
    }
      where
        count : length lines ≡ last + 1
        count = sym (length-map lines claim_of) ∙ ap length h.claims ∙ length-map (take (last + 1) labels) (claim_at v peer)
            ∙ length-taken labels (last + 1) (omega (arith, slice_get_within labels last words at))

        found : (x : Line) × (slice_get lines last ≡ Some x)
        found = item lines last (omega (arith, count))

        same : claim_of found.0 ≡ claim_at v peer words
        same = same_Some (claim_of found.0) (claim_at v peer words)
            (sym (slice_get-map claim_of lines last ∙ ap (option_map claim_of) found.1) ∙ ap (λ cs. slice_get cs last) h.claims
            ∙ slice_get-map (claim_at v peer) (take (last + 1) labels) last ∙ ap (option_map (claim_at v peer)) (get-taken labels (last + 1) last (omega arith) ∙ at))

-- The two halves of a window's end, put together.
use Rattle.std.proofs.Common.{◌≡◌, ◌∙◌, ◌⊎◌, ◌<◌, ℕ, suc, false, List, [], ◌∷◌, ◌++◌, length, length-append, None, Some, ap, refl, subst, sym, inl, inr, arith, All}
use Rattle.std.specs.Prelude.{is_some, slice_get}
use Rattle.std.specs.Map.{lookup}
use Rattle.std.proofs.lemmas.List.Elements.{All-head, All-tail, All-weaker}
use Rattle.std.proofs.lemmas.Option.{same_Some, slice_get-get_or, slice_get_within}
use Rattle.std.proofs.lemmas.List.{append_assoc}
use Rattle.std.specs.List.{slice_index_or}
use Rattle.dd_answer.specs.declared.answer.Answer.{Answer}
use Rattle.dd_board.specs.Boards.{OfSession}
use Rattle.dd_board.specs.View.{SessionView}
use Rattle.dd_cache.specs.Keys.{Key, same_key, seen_key}
use Rattle.dd_cache.specs.declared.cache.Kept.{Kept as Entry}
use Rattle.dd_outcome.specs.Answers.{Answers}
use Rattle.dd_task.specs.declared.job.Job.{Job}
use Rattle.dd_task.proofs.Places.{at-append}
use Rattle.dd_text.specs.Symbols.{SymbolLists}
use Rattle.dd_wire.specs.declared.reply.Origin.TheVariants.{Search}
use Rattle.dd_wire.specs.declared.reply.Reply.{Reply}
use Rattle.dd_work.specs.Settled.{ExtendEach}
use Rattle.dd_read.specs.Fit.{IsFitKept}
use Rattle.dd_read.specs.State.{State}
use Rattle.dd_read.specs.declared.kept.Ask.{Ask}
use Rattle.dd_read.specs.declared.kept.Kept.{Kept}
use Rattle.dd_read.specs.declared.kept.Kept.TheVariants.{Finished, Asked}
use Rattle.dd_server.specs.Finish.{Answered, Entries, Finish, KeepAll, Keeps, KeepsItem, LookUpAll, LooksBy, LooksUpItem, Replies, RepliesItem, ReplyAll, Told, answered, key_of_ask, replied}
use Rattle.dd_server.specs.Held.{AreEntries}
use Rattle.dd_server.specs.Windows.{ConcludeAll, Concludes, IsOpen, IsSearched, IsToldNow, LookToAll, LooksTo, Opens}
use Rattle.dd_server.specs.declared.look.Looked.{Looked}
use Rattle.dd_server.specs.declared.look.Looked.TheVariants as looked
use Rattle.dd_server.proofs.Holding.{keeps-entries}

-- ---- one more item

pub look-more : (s : SymbolLists) (board : List SessionView) (ks : List Kept) (k : Kept) (old mid new : Entries) (ls : List Looked) (l : Looked)
    → LookToAll s board ks old mid ls → LooksTo s board k mid new l → LookToAll s board (ks ++ k ∷ []) old new (ls ++ l ∷ [])
look-more s board [] k old mid new ls l h t =
    (l, [], new, ap (λ (xs : List Looked). xs ++ l ∷ []) h.0, subst (λ (es : Entries). LooksTo s board k es new l) h.1 t, (refl, refl))
look-more s board (j ∷ ks) k old mid new ls l h t =
    (h.0, h.1 ++ l ∷ [], h.2, ap (λ (xs : List Looked). xs ++ l ∷ []) h.3, h.4, look-more s board ks k h.2 mid new h.1 l h.5 t)

pub conclude-more : (capacity : ℕ) (s : SymbolLists) (board : List SessionView) (ls : List Looked) (l : Looked) (old mid new : Entries) (rs : List Reply) (r : Reply)
    → ConcludeAll capacity s board ls old mid rs → Concludes capacity s board l mid new r → ConcludeAll capacity s board (ls ++ l ∷ []) old new (rs ++ r ∷ [])
conclude-more capacity s board [] l old mid new rs r h c =
    (r, [], new, ap (λ (xs : List Reply). xs ++ r ∷ []) h.0, subst (λ (es : Entries). Concludes capacity s board l es new r) h.1 c, (refl, refl))
conclude-more capacity s board (j ∷ ls) l old mid new rs r h c =
    (h.0, h.1 ++ r ∷ [], h.2, ap (λ (xs : List Reply). xs ++ r ∷ []) h.3, h.4, conclude-more capacity s board ls l h.2 mid new h.1 r h.5 c)

-- ---- more sessions

module _ (s : SymbolLists) (old new : List SessionView) (opens : Opens old new) where
  searched-later : (ask : Ask) (a b : Entries) (l : Looked) → IsSearched s old ask a b l → IsSearched s new ask a b l
  searched-later ask a b l h = record {
    key = h.key;
    session = h.session;
    looked_is = h.looked_is;
    key_is = h.key_is;
    missing = h.missing;
    same = h.same;
    view = h.view;
    at = ap (λ (board : List SessionView). slice_get board h.session) opens.1 ∙ at-append SessionView old opens.0 h.session h.view h.at;
    job = h.job;
  }

  looks-later : (k : Kept) (a b : Entries) (l : Looked) → LooksTo s old k a b l → LooksTo s new k a b l
  looks-later (Finished given) a b l h = h
  looks-later (Asked ask) a b l (inl told) = inl told
  looks-later (Asked ask) a b l (inr searched) = inr (searched-later ask a b l searched)

  pub look-later : (ks : List Kept) (a b : Entries) (ls : List Looked) → LookToAll s old ks a b ls → LookToAll s new ks a b ls
  look-later [] a b ls h = h
  look-later (k ∷ ks) a b ls h = (h.0, h.1, h.2, h.3, looks-later k a h.2 h.0 h.4, look-later ks h.2 b h.1 h.5)

  open-one : (l : Looked) → IsOpen old l → IsOpen new l
  open-one (looked.Told given) h = h
  open-one (looked.Searched id pin key session) h =
      let longer = ap length opens.1 ∙ length-append old opens.0 in
      omega (arith, h, longer)

  pub open-later : (ls : List Looked) → All (IsOpen old) ls → All (IsOpen new) ls
  open-later ls h = All-weaker (IsOpen old) (IsOpen new) open-one ls h

pub opens-both : (a b c : List SessionView) → Opens a b → Opens b c → Opens a c
opens-both a b c h k = (h.0 ++ k.0, k.1 ∙ ap (λ (xs : List SessionView). xs ++ k.0) h.1 ∙ append_assoc a h.0 k.0)

-- ---- both halves

module _ (capacity : ℕ) (s : SymbolLists) (board settled : List SessionView) (extends : ExtendEach board settled) where
  -- what answers a session of the settled board answers the job that it was opened with
  of-session : (n : ℕ) (v : SessionView) (a : Answer) (job : Job) → slice_get board n ≡ Some v → v.job ≡ job
      → OfSession (λ (x : SessionView). Answers x.job a) settled n → Answers job a
  of-session n v a job at is answers =
      let low = slice_get_within board n v at in
      let count = extends.count in
      let now = slice_get-get_or settled n v (omega (arith, low, count)) in
      let w = slice_index_or settled n v in
      let e = extends.each n w now in
      subst (λ (j : Job). Answers j a) (e.2.job ∙ ap (λ (x : SessionView). x.job) (same_Some e.0 v (sym e.1 ∙ at)) ∙ is) (answers w now)

  told-item : (given : Reply) (l : Looked) (a b c d : Entries) (r : Reply) → l ≡ looked.Told given → b ≡ a → Concludes capacity s settled l c d r
      → (r ≡ given) × (d ≡ c)
  told-item given l a b c d r is same h = subst (λ (x : Looked). Concludes capacity s settled x c d r) is h

  item : (k : Kept) (l : Looked) (a b c d : Entries) (r : Reply) → LooksTo s board k a b l → Concludes capacity s settled l c d r
      → (t : Told) × LooksUpItem s k a b t × KeepsItem capacity s t c d × RepliesItem s t r
  item (Finished given) l a b c d r h k = let t = told-item given l a b c d r h.0 h.1 k in (replied given, (refl, h.1), t.1, t.0)
  item (Asked ask) l a b c d r (inl n) k =
      let t = told-item n.reply l a a c d r n.looked_is refl k in
      (answered ask n.given, (n.given, refl, n.looks), inl t.1, subst (λ (x : Reply). Replies s ask.id ask.pin n.given.from n.given.answer x) (sym t.0) n.replies)
  item (Asked ask) l a b c d r (inr n) k =
      let t : (x : Answer) × OfSession (λ v. Answers v.job x) settled n.session × Keeps capacity (seen_key n.key) (record { from = Search; answer = x }) c d × Replies s ask.id ask.pin Search x r
      = subst (λ (x : Looked). Concludes capacity s settled x c d r) n.looked_is k in
      let given : Answered = record { from = Search; answer = t.0 } in (
        answered ask given,
        (
          given,
          refl,
          (
            ∣ of-session n.session n.view t.0 ask.job n.at n.job t.1 ∣₁,
            inr (subst (λ o. LooksBy (key_of_ask s ask) o a b given) (sym n.missing) (refl, n.same)),
          ),
        ),
        subst (λ (key : Key). Keeps capacity key given c d) n.key_is t.2,
        t.3,
      )

  pub together : (ks : List Kept) (ls : List Looked) (a b c d : Entries) (rs : List Reply) → LookToAll s board ks a b ls → ConcludeAll capacity s settled ls c d rs
      → (told : List Told) × LookUpAll s ks a b told × KeepAll capacity s told c d × ReplyAll s told rs
  together [] ls a b c d rs h k =
      let e : (rs ≡ []) × (d ≡ c) = subst (λ (xs : List Looked). ConcludeAll capacity s settled xs c d rs) h.0 k in
      ([], (refl, h.1), e.1, e.0)
  together (j ∷ ks) ls a b c d rs h k =
      let e : ConcludeAll capacity s settled (h.0 ∷ h.1) c d rs = subst (λ (xs : List Looked). ConcludeAll capacity s settled xs c d rs) h.3 k in
      let first = item j h.0 a h.2 c e.2 e.0 h.4 e.4 in
      let more = together ks h.1 h.2 b e.2 d e.1 h.5 e.5 in (
        first.0 ∷ more.0,
        (first.0, more.0, h.2, refl, first.1, more.1),
        (e.2, first.2, more.2),
        (e.0, e.1, e.3, first.3, more.3),
      )

-- what is kept are answers to the asks of the window
pub kept-entries : (capacity : ℕ) (state : State) (ks : List Kept) (told : List Told) (a b c d : Entries) → All (IsFitKept state) ks → LookUpAll state.symbols ks a b told
    → KeepAll capacity state.symbols told c d → AreEntries state c → AreEntries state d
kept-entries capacity state [] told a b c d fit looks keeps h =
    let same : d ≡ c = subst (λ (ts : List Told). KeepAll capacity state.symbols ts c d) looks.0 keeps in
    subst (AreEntries state) (sym same) h
kept-entries capacity state (k ∷ ks) told a b c d fit looks keeps h =
    let all : KeepAll capacity state.symbols (looks.0 ∷ looks.1) c d = subst (λ (ts : List Told). KeepAll capacity state.symbols ts c d) looks.3 keeps in
    kept-entries capacity state ks looks.1 looks.2 b all.0 d (All-tail (IsFitKept state) k ks fit) looks.5 all.2
    (one k looks.0 a looks.2 c all.0 (All-head (IsFitKept state) k ks fit) looks.4 all.1 h)
  where
    one : (k : Kept) (t : Told) (a b c d : Entries) → IsFitKept state k → LooksUpItem state.symbols k a b t → KeepsItem capacity state.symbols t c d → AreEntries state c → AreEntries state d
    one (Finished given) t a b c d fit looks keeps h =
        let same : d ≡ c = subst (λ (x : Told). KeepsItem capacity state.symbols x c d) looks.0 keeps in
        subst (AreEntries state) (sym same) h
    one (Asked ask) t a b c d fit looks keeps h =
        let kept : Keeps capacity (key_of_ask state.symbols ask) looks.0 c d = subst (λ (x : Told). KeepsItem capacity state.symbols x c d) looks.1 keeps in
        keeps-entries capacity state ask looks.0 c d fit looks.2.0 kept h

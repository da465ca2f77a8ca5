-- The losers of all logs are the open transactions of the image, and what they have open its stacks. It serves the goals of undone.
use Rattle.std.proofs.Common.{◌≡◌, ◌≢◌, ◌⊎◌, inl, inr, ⊎_elim, ◌+◌, ◌<◌, ◌≤◌, ℕ, zero, suc, List, [], ◌∷◌, ◌++◌, Option, Some, length, map, reverse, refl, sym, ap, subst, ◌∙◌, arith}
use Rattle.std.specs.Prelude.{All}
use Rattle.std.specs.List.{cons_option, filter_map, list_any}
use Rattle.std.specs.Option.{option_map_or}
use Rattle.std.proofs.lemmas.Bool.{cases_Bool, cases_eq}
use Rattle.std.proofs.lemmas.List.Elements.{All-head, All-tail}
use Rattle.std.proofs.lemmas.Option.{slice_get_past}
use Rattle.sd_base.specs.declared.ids.TxnId.{TxnId}
use Rattle.sd_base.specs.Ids.{IsBelow}
use Rattle.sd_logrec.specs.declared.record.Record.{Record}
use Rattle.sd_logrec.specs.declared.record.Record.TheVariants as records
use Rattle.sd_logrec.specs.Spelling.{HasSpelling}
use Rattle.sd_logrec.specs.View.{Rec, flat}
use Rattle.sd_logrec.specs.View.Kind.{Update}
use Rattle.sd_log.specs.declared.placed.Placed.{Placed}
use Rattle.sd_log.specs.Logs.{AreSpelled, LogState, flats, log_in, scanned}
use Rattle.sd_chain.specs.Records.{Each, IsOpen, home, stack}
use Rattle.sd_chain.specs.Order.{of_txn}
use Rattle.sd_chain.specs.Storage.{Open, Storage, opens}
use Rattle.sd_chain.specs.Laws.{AreOpen}
use Rattle.sd_chain.specs.Undoing.{Apart, Member, stacks_of}
use Rattle.sd_recovered.specs.declared.losers.Loser.{Loser}
use Rattle.sd_recovered.specs.Losers.{AreAt, AreLosers, IsLoser, Rise, record_at}
use Rattle.sd_recovered.specs.UndoPass.{AreLosersFrom, AreLosersOf, txns_of}
use Rattle.sd_recovered.specs.Taking.{open_in, picked, stacks_in}
use Rattle.sd_recovered.proofs.Alones.{log_at}
use Rattle.sd_recovered.proofs.Stacks.{member-back, member-front, stacks-append}
use Rattle.sd_chain.proofs.Lists.{Each-append, Each-weaker}
use Rattle.sd_chain.proofs.Whose.{stack-none}
use Rattle.sd_chain.proofs.Opens.{Each-stack}

-- the records that indices name
somes : {A B : Type 0} (h : A → Option B) (xs : List A) → filter_map (λ (o : Option B). o) (map h xs) ≡ filter_map h xs
somes h [] = refl
somes h (x ∷ xs) = ap (cons_option (h x)) (somes h xs)

some-all : {B : Type 0} (ys : List B) → filter_map (λ (o : Option B). o) (map (λ (y : B). Some y) ys) ≡ ys
some-all [] = refl
some-all (y ∷ ys) = ap (λ l. y ∷ l) (some-all ys)

pub picked-is : (log : List Placed) (open_ones : List ℕ) (xs : List Rec) → AreAt log open_ones xs → picked log (reverse open_ones) ≡ xs
picked-is log open_ones xs e =
    sym (somes (record_at log) (reverse open_ones)) ∙ ap (filter_map (λ (o : Option Rec). o)) e ∙ some-all xs

pub each-map : {A B : Type 0} (f : A → B) (P : B → Type 0) (xs : List A) → Each (λ x. P (f x)) xs → Each P (map f xs)
each-map f P [] a = tt
each-map f P (x ∷ xs) a = (a.0, each-map f P xs a.1)

pub Each-both : {A : Type 0} (P Q R : A → Type 0) → ((x : A) → P x → Q x → R x) → (xs : List A) → Each P xs → Each Q xs → Each R xs
Each-both P Q R f [] a b = tt
Each-both P Q R f (x ∷ xs) a b = (f x a.0 b.0, Each-both P Q R f xs a.1 b.1)

-- the image's logs from j on are these
abbrev pub Follows : Storage → ℕ → List LogState → Type 0
Follows img j [] = Unit {0}
Follows img j (log ∷ logs) = (img.logs j ≡ flats (scanned log)) × Follows img (suc j) logs

follows : (img : Storage) (logs : List LogState) (j : ℕ) → ((i : ℕ) → img.logs (j + i) ≡ log_at logs i) → Follows img j logs
follows img [] j h = tt
follows img (log ∷ logs) j h = (
  (let e : j ≡ j + 0 = omega arith in ap img.logs e ∙ h 0),
  follows img logs (suc j) (λ i. let e : suc j + i ≡ j + suc i = omega arith in ap img.logs e ∙ h (suc i)),
)

abbrev pub ids : List Loser → List TxnId
ids ls = map (λ l. l.txn) ls

-- what is known of the records that a transaction has open
abbrev pub Right : TxnId → Rec → Type 0
Right t x = (x.txn ≡ t) × (x.kind ≡ Update) × (x.page < 1024) × (0 < x.lsn)

spelled-update : (r : Record) → HasSpelling r → (flat r).kind ≡ Update → ((flat r).page < 1024) × (0 < (flat r).lsn)
spelled-update (records.Start lsn epoch) h e = absurd (cc)
spelled-update (records.Update lsn txn prev page slot capacity before after) h e = let low = h.0.0 in (h.3, omega (arith, low))
spelled-update (records.Clr lsn txn prev undo_next page slot after) h e = absurd (cc)
spelled-update (records.Commit lsn txn prev) h e = absurd (cc)
spelled-update (records.End lsn txn prev) h e = absurd (cc)
spelled-update (records.BeginCheck lsn) h e = absurd (cc)
spelled-update (records.EndCheck lsn begin spans recs) h e = absurd (cc)

each-spelled : (ps : List Placed) → AreSpelled ps → Each (λ x. x.kind ≡ Update → (x.page < 1024) × (0 < x.lsn)) (flats ps)
each-spelled [] h = tt
each-spelled (p ∷ ps) h = (
  spelled-update p.rec (All-head (λ (q : Placed). HasSpelling q.rec) p ps h),
  each-spelled ps (All-tail (λ (q : Placed). HasSpelling q.rec) p ps h),
)

right-stack : (t : TxnId) (ps : List Placed) → AreSpelled ps → Each (Right t) (stack t (flats ps))
right-stack t ps h =
    Each-stack (Right t) t (flats ps)
    (Each-weaker (λ x. x.kind ≡ Update → (x.page < 1024) × (0 < x.lsn)) (λ x. x.txn ≡ t → x.kind ≡ Update → Right t x)
    (λ x g own kind. (own, kind, (g kind).0, (g kind).1)) (flats ps) (each-spelled ps h))

-- one log
module _ (img : Storage) (j : ℕ) (log : LogState) (is : img.logs j ≡ flats (scanned log)) where
  pub log-of : (t : TxnId) → home t ≡ j → img.logs (home t) ≡ flats (scanned log)
  log-of t e = ap img.logs e ∙ is

  pub stacks-of : (ls : List Loser) → Each (IsLoser (scanned log)) ls → Each (λ l. home l.txn ≡ j) ls
      → stacks_in (scanned log) ls ≡ stacks_of img (ids ls)
  stacks-of [] a own = refl
  stacks-of (l ∷ ls) a own =
      ap (λ (xs : List Rec). xs ++ stacks_in (scanned log) ls)
      (picked-is (scanned log) l.open (stack l.txn (flats (scanned log))) a.0.stack_is ∙ ap (stack l.txn) (sym (log-of l.txn own.0)))
      ∙ ap (λ (xs : List Rec). opens img l.txn ++ xs) (stacks-of ls a.1 own.1)

  open-log : (ls : List Loser) → Each (IsLoser (scanned log)) ls → Each (λ l. home l.txn ≡ j) ls → Each (Open img) (ids ls)
  open-log ls a own =
      each-map (λ (l : Loser). l.txn) (Open img) ls
      (Each-both (IsLoser (scanned log)) (λ l. home l.txn ≡ j) (λ l. Open img l.txn)
      (λ l h e. subst (IsOpen l.txn) (sym (log-of l.txn e)) h.runs) ls a own)

  right-log : AreSpelled (scanned log) → (ls : List Loser) → Each (λ l. home l.txn ≡ j) ls
      → Each (λ t. Each (Right t) (opens img t)) (ids ls)
  right-log spelled ls own =
      each-map (λ (l : Loser). l.txn) (λ t. Each (Right t) (opens img t)) ls
      (Each-weaker (λ l. home l.txn ≡ j) (λ l. Each (Right l.txn) (opens img l.txn))
      (λ l e. subst (λ (xs : List Rec). Each (Right l.txn) (stack l.txn xs)) (sym (log-of l.txn e)) (right-stack l.txn (scanned log) spelled))
      ls own)

  covers-log : (ls : List Loser) → AreLosers (scanned log) ls → (t : TxnId) → Open img t → home t ≡ j
      → (opens img t ≡ []) ⊎ Member t (ids ls)
  covers-log ls losers t o e = ⊎_elim
      (λ there. inr (losers.all t (subst (IsOpen t) (log-of t e) o) there))
      (λ none. inl (ap (stack t) (log-of t e) ∙ stack-none t (flats (scanned log)) none))
      (cases_Bool (list_any (of_txn t) (flats (scanned log))))

-- all logs
pub losers-length : (j : ℕ) (logs : List LogState) (losers : List (List Loser)) → AreLosersFrom j logs losers
    → length losers ≡ length logs
losers-length j [] [] a = refl
losers-length j [] (ls ∷ losers) a = absurd a
losers-length j (log ∷ logs) [] a = absurd a
losers-length j (log ∷ logs) (ls ∷ losers) a = ap suc (losers-length (suc j) logs losers a.1)

open-stacks_from : (img : Storage) (j : ℕ) (logs : List LogState) (losers : List (List Loser)) → Follows img j logs
    → AreLosersFrom j logs losers → open_in logs losers ≡ stacks_of img (txns_of losers)
open-stacks_from img j [] [] f a = refl
open-stacks_from img j [] (ls ∷ losers) f a = absurd a
open-stacks_from img j (log ∷ logs) [] f a = absurd a
open-stacks_from img j (log ∷ logs) (ls ∷ losers) f a =
    ap (λ (xs : List Rec). xs ++ open_in logs losers) (stacks-of img j log f.0 ls a.0.losers_are.each a.0.own)
    ∙ ap (λ (xs : List Rec). stacks_of img (ids ls) ++ xs) (open-stacks_from img (suc j) logs losers f.1 a.1)
    ∙ sym (stacks-append img (ids ls) (txns_of losers))

each-open : (img : Storage) (j : ℕ) (logs : List LogState) (losers : List (List Loser)) → Follows img j logs
    → AreLosersFrom j logs losers → Each (Open img) (txns_of losers)
each-open img j [] [] f a = tt
each-open img j [] (ls ∷ losers) f a = absurd a
each-open img j (log ∷ logs) [] f a = absurd a
each-open img j (log ∷ logs) (ls ∷ losers) f a =
    Each-append (Open img) (ids ls) (txns_of losers) (open-log img j log f.0 ls a.0.losers_are.each a.0.own)
    (each-open img (suc j) logs losers f.1 a.1)

rights_from : (img : Storage) (j : ℕ) (logs : List LogState) (losers : List (List Loser)) → Follows img j logs
    → AreLosersFrom j logs losers → All (λ log. AreSpelled (scanned log)) logs
    → Each (λ t. Each (Right t) (opens img t)) (txns_of losers)
rights_from img j [] [] f a h = tt
rights_from img j [] (ls ∷ losers) f a h = absurd a
rights_from img j (log ∷ logs) [] f a h = absurd a
rights_from img j (log ∷ logs) (ls ∷ losers) f a h =
    Each-append (λ t. Each (Right t) (opens img t)) (ids ls) (txns_of losers)
    (right-log img j log f.0 (All-head (λ (l : LogState). AreSpelled (scanned l)) log logs h) ls a.0.own)
    (rights_from img (suc j) logs losers f.1 a.1 (All-tail (λ (l : LogState). AreSpelled (scanned l)) log logs h))

-- none is listed twice
pub below-ne : (t u : TxnId) → IsBelow t u → t ≢ u
below-ne t u (inl lt) e = let i = ap (λ (k : TxnId). k.inst) e in absurd (omega (arith, lt, i))
below-ne t u (inr h) e = by h.1
  where
    by : (t.epoch < u.epoch) ⊎ ((t.epoch ≡ u.epoch) × (t.seq < u.seq)) → ⊥
    by (inl lt) = let i = ap (λ (k : TxnId). k.epoch) e in omega (arith, lt, i)
    by (inr g) = let i = ap (λ (k : TxnId). k.seq) e in let lt = g.1 in omega (arith, lt, i)

-- each is below those behind it
abbrev pub Rises : List TxnId → Type 0
Rises [] = Unit {0}
Rises (t ∷ ts) = Each (λ u. IsBelow t u) ts × Rises ts

rises-apart : (ts : List TxnId) → Rises ts → Apart ts
rises-apart [] r = tt
rises-apart (t ∷ ts) r = (Each-weaker (λ u. IsBelow t u) (λ u. t ≢ u) (λ u. below-ne t u) ts r.0, rises-apart ts r.1)

rises-log : (ls : List Loser) → Rise ls → Rises (ids ls)
rises-log [] r = tt
rises-log (l ∷ ls) r = (each-map (λ (k : Loser). k.txn) (λ u. IsBelow l.txn u) ls r.0, rises-log ls r.1)

rises-append : (ts us : List TxnId) → Rises ts → Rises us → Each (λ t. Each (λ u. IsBelow t u) us) ts → Rises (ts ++ us)
rises-append [] us a b c = b
rises-append (t ∷ ts) us a b c = (Each-append (λ u. IsBelow t u) ts us a.0 c.0, rises-append ts us a.1 b c.1)

pub later-homes : (j : ℕ) (logs : List LogState) (losers : List (List Loser)) → AreLosersFrom j logs losers
    → Each (λ t. j ≤ home t) (txns_of losers)
later-homes j [] [] a = tt
later-homes j [] (ls ∷ losers) a = absurd a
later-homes j (log ∷ logs) [] a = absurd a
later-homes j (log ∷ logs) (ls ∷ losers) a =
    Each-append (λ t. j ≤ home t) (ids ls) (txns_of losers)
    (each-map (λ (l : Loser). l.txn) (λ t. j ≤ home t) ls
    (Each-weaker (λ l. home l.txn ≡ j) (λ l. j ≤ home l.txn) (λ l e. omega (arith, e)) ls a.0.own))
    (Each-weaker (λ t. suc j ≤ home t) (λ t. j ≤ home t) (λ t le. omega (arith, le)) (txns_of losers)
    (later-homes (suc j) logs losers a.1))

pub losers-rise : (j : ℕ) (logs : List LogState) (losers : List (List Loser)) → AreLosersFrom j logs losers → Rises (txns_of losers)
losers-rise j [] [] a = tt
losers-rise j [] (ls ∷ losers) a = absurd a
losers-rise j (log ∷ logs) [] a = absurd a
losers-rise j (log ∷ logs) (ls ∷ losers) a =
    rises-append (ids ls) (txns_of losers) (rises-log ls a.0.losers_are.rise) (losers-rise (suc j) logs losers a.1)
    (each-map (λ (l : Loser). l.txn) (λ t. Each (λ u. IsBelow t u) (txns_of losers)) ls
    (Each-weaker (λ l. home l.txn ≡ j) (λ l. Each (λ u. IsBelow l.txn u) (txns_of losers))
    (λ l e. Each-weaker (λ u. suc j ≤ home u) (λ u. IsBelow l.txn u) (λ u le. inl (omega (arith, e, le))) (txns_of losers)
    (later-homes (suc j) logs losers a.1)) ls a.0.own))

-- each open one that has a record is listed
covers : (img : Storage) (j : ℕ) (logs : List LogState) (losers : List (List Loser)) → Follows img j logs → AreLosersFrom j logs losers
    → (t : TxnId) → Open img t → j ≤ home t → (j + length logs ≤ home t → opens img t ≡ [])
    → (opens img t ≡ []) ⊎ Member t (txns_of losers)
covers img j [] [] f a t o le past = inl (past (omega (arith, le)))
covers img j [] (ls ∷ losers) f a t o le past = absurd a
covers img j (log ∷ logs) [] f a t o le past = absurd a
covers img j (log ∷ logs) (ls ∷ losers) f a t o le past = ⊎_elim
    (λ e. ⊎_elim (λ none. inl none) (λ m. inr (member-front t (ids ls) (txns_of losers) m))
    (covers-log img j log f.0 ls a.0.losers_are t o e))
    (λ ne. ⊎_elim (λ none. inl none) (λ m. inr (member-back t (ids ls) (txns_of losers) m))
    (covers img (suc j) logs losers f.1 a.1 t o (above (home t) j le ne) (λ h. past (omega (arith, h)))))
    (cases_eq (home t) j)
  where
    above : (a b : ℕ) → b ≤ a → a ≢ b → suc b ≤ a
    above a b le ne = omega (arith, le, ne)

module _ (img : Storage) (logs : List LogState) (losers : List (List Loser)) (logs_are : (j : ℕ) → img.logs j ≡ log_in logs j)
    (found : AreLosersOf logs losers) where
  pub follows-all : Follows img 1 logs
  follows-all = follows img logs 1 (λ i. let e : 1 + i ≡ suc i = omega arith in ap img.logs e ∙ logs_are (suc i))

  pub open-stacks : open_in logs losers ≡ stacks_of img (txns_of losers)
  open-stacks = open-stacks_from img 1 logs losers follows-all found

  pub rights : All (λ log. AreSpelled (scanned log)) logs → Each (λ t. Each (Right t) (opens img t)) (txns_of losers)
  rights h = rights_from img 1 logs losers follows-all found h

  none-past : (t : TxnId) → (k : ℕ) → home t ≡ k → (k ≡ 0) ⊎ (1 + length logs ≤ k) → opens img t ≡ []
  none-past t zero e h = ap (λ (k : ℕ). stack t (img.logs k)) e ∙ ap (stack t) (logs_are 0)
  none-past t (suc k) e (inl z) = absurd (omega (arith, z))
  none-past t (suc k) e (inr le) =
      ap (λ (n : ℕ). stack t (img.logs n)) e ∙ ap (stack t) (logs_are (suc k))
      ∙ ap (λ (o : Option LogState). stack t (option_map_or (λ log. flats (scanned log)) o [])) (slice_get_past logs k (omega (arith, le)))

  pub are-open : AreOpen img (txns_of losers)
  are-open = record {
    each = each-open img 1 logs losers follows-all found;
    once = rises-apart (txns_of losers) (losers-rise 1 logs losers found);
    all = λ t o. ⊎_elim
        (λ e. inl (none-past t (home t) refl (inl e)))
        (λ ne. covers img 1 logs losers follows-all found t o (pos (home t) ne) (λ le. none-past t (home t) refl (inr le)))
        (cases_eq (home t) 0);
  }
    where
      pos : (n : ℕ) → n ≢ 0 → 1 ≤ n
      pos n ne = omega (arith, ne)

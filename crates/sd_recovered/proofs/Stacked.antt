-- The open records of a loser, one after another in order of their LSNs: for the goals of `reopen`.
use Rattle.std.proofs.Common.{◌≡◌, ℕ, zero, suc, ◌+◌, ◌<◌, List, [], ◌∷◌, ◌++◌, length, get_or, take, map, reverse, Option, None, Some, IsSome, slice_get, refl, sym, ap, subst, ◌∙◌, arith}
use Rattle.std.specs.Option.{option_map}
use Rattle.std.proofs.lemmas.List.{map-append, reverse-append, reverse-reverse}
use Rattle.std.proofs.lemmas.Option.{slice_get-get_or}
use Rattle.sd_base.specs.declared.ids.TxnId.{TxnId}
use Rattle.sd_base.proofs.Lists.{take_next}
use Rattle.sd_logrec.specs.View.{Rec}
use Rattle.sd_logrec.specs.View.Kind.{Update}
use Rattle.sd_log.specs.declared.placed.Placed.{Placed}
use Rattle.sd_log.specs.Logs.{flats}
use Rattle.sd_chain.specs.Records.{Each, stack}
use Rattle.sd_chain.proofs.Lists.{Each-append}
use Rattle.sd_chain.proofs.Opens.{Each-stack}
use Rattle.sd_recovered.specs.declared.losers.Loser.{Loser}
use Rattle.sd_recovered.specs.Losers.{IsLoser, record_at}
use Rattle.sd_recovered.proofs.Indices.{at_within}
use Rattle.sd_recovered.proofs.Known.{found_at, rec_at}
use Rattle.sd_txn.specs.declared.state.OpenRec.{OpenRec}
use Rattle.sd_txn.specs.declared.state.TxnState.{TxnState}
use Rattle.sd_txn.specs.Transactions.{pushed, started, txn_at, IsUnresolved, OthersStay, SameOrder, Transaction, Transactions}
use Rattle.sd_recovered.specs.Kept.{open_rec}
use Rattle.sd_recovered.proofs.Walking.{each_at}

-- ---- lists turned round

turned : {X : Type 0} (x : X) (xs : List X) → reverse (x ∷ xs) ≡ reverse xs ++ x ∷ []
turned x xs = reverse-append (x ∷ []) xs

pub map-reverse : {A B : Type 0} (f : A → B) (xs : List A) → map f (reverse xs) ≡ reverse (map f xs)
map-reverse f [] = refl
map-reverse {A} {B} f (x ∷ xs) = ap (map f) (turned x xs) ∙ map-append f (reverse xs) (x ∷ [])
    ∙ ap (λ (l : List B). l ++ f x ∷ []) (map-reverse f xs) ∙ sym (turned (f x) (map f xs))

Each-reverse : {X : Type 0} (P : X → Type 0) (xs : List X) → Each P xs → Each P (reverse xs)
Each-reverse P [] a = tt
Each-reverse P (x ∷ xs) a =
    subst (Each P) (sym (turned x xs)) (Each-append P (reverse xs) (x ∷ []) (Each-reverse P xs a.1) (a.0, tt))

-- ---- the records that indices name

-- the record that the index names stands at this place
pub record Names (log : List Placed) (xs : List Rec) (k at : ℕ) : Type 0 where
  pub rec : Rec
  pub there : record_at log at ≡ Some rec
  pub here : slice_get xs k ≡ Some rec

names : (log : List Placed) (open_ones : List ℕ) (xs : List Rec) (k at : ℕ) → map (record_at log) open_ones ≡ map (λ x. Some x) xs
    → slice_get open_ones k ≡ Some at → Names log xs k at
names log [] xs k at e g = absurd (cc)
names log (i ∷ is) [] k at e g = absurd (cc)
names log (i ∷ is) (x ∷ xs) zero at e g =
    let same : i ≡ at = cc in
    let first : record_at log i ≡ Some x = cc in record { rec = x; there = ap (record_at log) (sym same) ∙ first; here = refl }
names log (i ∷ is) (x ∷ xs) (suc k) at e g =
    let behind : map (record_at log) is ≡ map (λ x. Some x) xs = cc in
    let n = names log is xs k at behind g in record { rec = n.rec; there = n.there; here = n.here }

-- a loser's open records, the oldest first
abbrev pub oldest : List Placed → Loser → List Rec
oldest log loser = reverse (stack loser.txn (flats log))

oldest-are : (log : List Placed) (loser : Loser) → IsLoser log loser → map (record_at log) loser.open ≡ map (λ x. Some x) (oldest log loser)
oldest-are log loser is =
    ap (map (record_at log)) (sym (reverse-reverse loser.open)) ∙ map-reverse (record_at log) (reverse loser.open) ∙ ap reverse is.stack_is
    ∙ sym (map-reverse (λ (x : Rec). Some x) (stack loser.txn (flats log)))

-- the record that a loser's index names, as the loop reads both
pub named : (log : List Placed) (loser : Loser) (items : List ℕ) (k : ℕ) → IsLoser log loser → items ≡ loser.open → k < length items
    → Names log (oldest log loser) k (get_or items k 0)
named log loser items k is same lt =
    names log items (oldest log loser) k (get_or items k 0) (ap (map (record_at log)) same ∙ oldest-are log loser is)
    (slice_get-get_or items k 0 lt)

pub read-is : (log : List Placed) (at : ℕ) (p : Placed) (x : Rec) → record_at log at ≡ Some x → rec_at log at p ≡ x
read-is log at p x there =
    let e : Some (rec_at log at p) ≡ Some x = sym (found_at log at p (at_within log at x there)) ∙ there in cc

-- each is an update
pub is-update : (log : List Placed) (loser : Loser) (k : ℕ) (x : Rec) → slice_get (oldest log loser) k ≡ Some x → x.kind ≡ Update
is-update log loser k x here =
    each_at (λ y. y.kind ≡ Update) (oldest log loser) k x
    (Each-reverse (λ y. y.kind ≡ Update) (stack loser.txn (flats log))
    (Each-stack (λ y. y.kind ≡ Update) loser.txn (flats log) (trivial (flats log)))) here
  where
    trivial : (xs : List Rec) → Each (λ y. y.txn ≡ loser.txn → y.kind ≡ Update → y.kind ≡ Update) xs
    trivial [] = tt
    trivial (x ∷ xs) = ((λ own kind. kind), trivial xs)

-- ---- one record after another

-- with these records open
abbrev pub holding : TxnState → List Rec → Transaction
holding state xs = record { state = state; marks = []; stack = map open_rec xs; span = None }

-- the table once so many of the records are open
pub record Reopening (log : List Placed) (loser : Loser) (old new : Transactions) (k : ℕ) : Type 0 where
  pub row : (state : TxnState) → txn_at old loser.txn ≡ Some (started state)
      → txn_at new loser.txn ≡ Some (holding state (take k (oldest log loser)))
  pub unresolved : IsUnresolved new loser.txn
  pub others : OthersStay old new loser.txn
  pub order : SameOrder old new

order_on : (a b c : Transactions) → SameOrder a b → SameOrder b c → SameOrder a c
order_on a b c one two = record {
  same_ids = two.same_ids ∙ one.same_ids;
  same_inst = two.same_inst ∙ one.same_inst;
  same_epoch = two.same_epoch ∙ one.same_epoch;
  same_begins = two.same_begins ∙ one.same_begins;
}

others_on : (a b c : Transactions) (t : TxnId) → OthersStay a b t → OthersStay b c t → OthersStay a c t
others_on a b c t one two u ne = two u ne ∙ one u ne

mapped : {X Y : Type 0} (f : X → Y) (o : Option X) → IsSome o → IsSome (option_map f o)
mapped f None is = absurd (cc)
mapped f (Some x) is = refl

still : (a b : Transactions) (t : TxnId) (f : Transaction → Transaction) → IsUnresolved a t → txn_at b t ≡ option_map f (txn_at a t)
    → IsUnresolved b t
still a b t f is changed = subst (λ (o : Option Transaction). IsSome o) (sym changed) (mapped f (txn_at a t) is)

pub reopening_more : (log : List Placed) (loser : Loser) (old mid new : Transactions) (k : ℕ) (x : Rec) (rec : OpenRec)
    → Reopening log loser old mid k → slice_get (oldest log loser) k ≡ Some x → rec ≡ open_rec x
    → txn_at new loser.txn ≡ option_map (pushed rec) (txn_at mid loser.txn) → OthersStay mid new loser.txn → SameOrder mid new
    → Reopening log loser old new (k + 1)
reopening_more log loser old mid new k x rec was here is changed others order = record {
  row = λ state e. changed ∙ ap (option_map (pushed rec)) (was.row state e)
      ∙ ap (λ (l : List OpenRec). Some (record { state = state; marks = []; stack = l; span = None })) grown;
  unresolved = still mid new loser.txn (pushed rec) was.unresolved changed;
  others = others_on old mid new loser.txn was.others others;
  order = order_on old mid new was.order order;
}
  where
    grown : map open_rec (take k (oldest log loser)) ++ rec ∷ [] ≡ map open_rec (take (k + 1) (oldest log loser))
    grown = ap (λ (r : OpenRec). map open_rec (take k (oldest log loser)) ++ r ∷ []) is
        ∙ sym (map-append open_rec (take k (oldest log loser)) (x ∷ []))
        ∙ ap (map open_rec) (sym (take_next (oldest log loser) k x here))
        ∙ ap (λ (n : ℕ). map open_rec (take n (oldest log loser))) (let e : suc k ≡ k + 1 = omega arith in e)

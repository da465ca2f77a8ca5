-- What the calls of a change find and leave: tables, images, sums. For `change`.
use Rattle.std.proofs.Common.{◌≡◌, ◌≢◌, ◌⊎◌, inl, inr, ⊎_elim, ℕ, zero, suc, ◌+◌, ◌-◌, ◌≤◌, Bool, true, false, List, [], ◌∷◌, ◌++◌, cond, eqb, eq-eqb, get_or, length, max, refl, sym, ap, ◌∙◌, subst, arith}
use Rattle.std.specs.Prelude.{Option, None, Some, Result, Ok, Err, IfErr, IsSome, is_some, if◌then◌else◌, option_and_then, option_map, slice_get, unwrap_or}
use Rattle.std.proofs.lemmas.Bool.{ne_eqb}
use Rattle.std.proofs.lemmas.List.{length_push}
use Rattle.std.proofs.lemmas.List.Sums.{sum_by_push}
use Rattle.sd_base.proofs.Lists.{slice_get-push}
use Rattle.sd_base.specs.declared.ids.Rid.{Rid}
use Rattle.sd_base.specs.declared.place.Mode.{Mode}
use Rattle.sd_base.specs.declared.refusal.Refusal.{Refusal}
use Rattle.sd_base.specs.declared.refusal.Refusal.TheVariants as refusals
use Rattle.sd_base.specs.declared.place.Mode.TheVariants as modes
use Rattle.sd_page.specs.declared.op.Op.{Op}
use Rattle.sd_reclock.specs.Locks.{Agree, Held, held_in}
use Rattle.sd_pagelock.specs.Asks.{is_open_ask, open_asks}
use Rattle.sd_pagelock.specs.Places.{PageEntry}
use Rattle.sd_pagelock.specs.declared.queue.Ask.{Ask}
use Rattle.sd_txn.specs.Owing.{bytes_owed, owed_of, records_owed, undo_len}
use Rattle.sd_txn.specs.declared.state.TxnState.{TxnState}
use Rattle.sd_redo.proofs.Written.{write-written}
use Rattle.sd_update.specs.Changing.{Change, changed_row, flat_of, opened, owed_then, row_for}
use Rattle.sd_state.specs.Sums.{owed_above, owed_where, owes_above, owes_most}
use Rattle.sd_state.specs.Tables.{tells_log}
use Rattle.std.specs.List.{AllByRecursion}
use Rattle.sd_base.specs.Values.{size}
use Rattle.sd_base.specs.declared.ids.TxnId.{TxnId}
use Rattle.sd_page.specs.Page.{Page, PageFits, Slot, SlotFits, after_of, applied, written}
use Rattle.sd_txn.specs.Marked.{AreMarks}
use Rattle.sd_txn.specs.Transactions as txns
use Rattle.sd_txn.specs.Transactions.{Transaction, depth, popped, pushed}
use Rattle.sd_txn.specs.declared.state.OpenRec.{OpenRec}
use Rattle.sd_txn.proofs.Stacks.{popped-pushed}
use Rattle.sd_chain.specs.Pages.{redo, value, write}
use Rattle.sd_chain.specs.Records.{Each, home}
use Rattle.sd_chain.proofs.Lists.{filter-cons}
use Rattle.sd_state.proofs.Summed.{sum-near}
use Rattle.sd_state.specs.Parts.{Parts, among, is_loose, owed_at, status_at, txns_at}

-- what was pushed and popped again
pub pop-pushed : (o : Option Transaction) (top : OpenRec) → ((x : Transaction) → o ≡ Some x → AreMarks x.marks (depth x))
    → option_map popped (option_map (pushed top) o) ≡ o
pop-pushed None top marks = refl
pop-pushed (Some x) top marks = ap (λ (y : Transaction). Some y) (popped-pushed x top (marks x refl))

-- what was pushed is on top
pub pushed-top : (o : Option Transaction) (o' : Option Transaction) (top : OpenRec) → IsSome o → o' ≡ option_map (pushed top) o → option_and_then txns.top o' ≡ Some top
pushed-top None o' top some e = absurd (cc)
pushed-top (Some x) o' top some e = ap (option_and_then txns.top) e ∙ last_behind x.stack top
  where
    last_behind : (os : List OpenRec) (o : OpenRec) → slice_get (os ++ o ∷ []) (length (os ++ o ∷ []) - 1) ≡ Some o
    last_behind os o = ap (slice_get (os ++ o ∷ [])) (omega (arith, length_push os o)) ∙ slice_get-push os o

-- a value of a page has 256 bytes at most
small-in : (slots : List Slot) (s : ℕ) → AllByRecursion SlotFits slots → size (value slots s) ≤ 256
small-in [] s a = omega arith
small-in (x ∷ xs) zero a = let c = a.0.capacity in let v = a.0.value in omega (arith, c, v)
small-in (x ∷ xs) (suc s) a = small-in xs s a.1

pub value-small : (image : Page) (s : ℕ) → PageFits image → size (value image.slots s) ≤ 256
value-small image s fits = small-in image.slots s fits.slots

-- an item of an instance stands at its place
pub among-at : {A : Type 0} (none : A) (items : List A) (i : ℕ) → 1 ≤ i → among none items i ≡ get_or items (i - 1) none
among-at none items zero low = absurd (omega (arith, low))
among-at none items (suc j) low = let k : suc j - 1 ≡ j = omega arith in ap (λ n. get_or items n none) (sym k)

-- ---- what is known of one

pub there-as : {A : Type 0} (o : Option A) (v d : A) → o ≡ Some v → o ≡ Some (unwrap_or o d)
there-as {A} o v d e = e ∙ ap (λ (w : A). Some w) (sym (ap (λ (q : Option A). unwrap_or q d) e))

pub some-as : {A : Type 0} (o : Option A) (d : A) → IsSome o → o ≡ Some (unwrap_or o d)
some-as None d is = absurd (cc)
some-as (Some v) d is = refl

pub state-as : (o : Option Transaction) (s : TxnState) (d : Transaction) → option_map (λ (x : Transaction). x.state) o ≡ Some s
    → (o ≡ Some (unwrap_or o d)) × ((unwrap_or o d).state ≡ s)
state-as None s d e = absurd (cc)
state-as (Some x) s d e = (refl, cc)

-- who has the exclusive lock has it alone
pub lone-lock : (locks : Held) (t : TxnId) (r : Rid) → Agree locks → held_in locks t r ≡ Some modes.Excl → (u : TxnId) → t ≢ u
    → held_in locks u r ≡ None
lone-lock locks t r agree own u ne = by (held_in locks u r) refl
  where
    by : (o : Option Mode) → held_in locks u r ≡ o → o ≡ None
    by None e = refl
    by (Some other) e = absurd (agree r t u modes.Excl other ne own e tt)

-- ---- what is reserved and owed with a further open record

span-bit : (o : Option (ℕ × ℕ)) (n : ℕ) → ((is_some o ≡ true) × ((if is_some o then n else 0) ≡ n) × ((if is_some o then 0 else n) ≡ 0))
    ⊎ ((is_some o ≡ false) × ((if is_some o then n else 0) ≡ 0) × ((if is_some o then 0 else n) ≡ n))
span-bit None n = inr (refl, refl, refl)
span-bit (Some s) n = inl (refl, refl, refl)

pub reserve-more : (k : Change) (x : Transaction) (new old : ℕ) → new + bytes_owed x ≡ old + bytes_owed (changed_row k x)
    → new ≡ old + undo_len (opened k) + (if is_some x.span then 0 else 31)
reserve-more k x new old sums =
    let more = sum_by_push undo_len x.stack (opened k) in
    ⊎_elim (λ there. let a = there.1 in let b = there.2 in omega (arith, sums, more, a, b))
    (λ none. let a = none.1 in let b = none.2 in omega (arith, sums, more, a, b))
    (span-bit x.span 31)

pub owed-more : (k : Change) (x : Transaction) (new old : ℕ) → new + records_owed x ≡ old + records_owed (changed_row k x)
    → new ≡ old + 1 + (if is_some x.span then 0 else 1)
owed-more k x new old sums =
    let more = length_push x.stack (opened k) in
    ⊎_elim (λ there. let a = there.1 in let b = there.2 in omega (arith, sums, more, a, b))
    (λ none. let a = none.1 in let b = none.2 in omega (arith, sums, more, a, b))
    (span-bit x.span 1)

-- ---- what the logs owe, at most and above that

low-above : (a b : Bool) (was told : ℕ) → cond a was (cond b (max was told) was) ≤ max was told
low-above true b was told = omega arith
low-above false true was told = omega arith
low-above false false was told = omega arith

one-at-most : (o : Option (ℕ × ℕ)) → (if is_some o then 0 else 1) ≤ 1
one-at-most None = omega arith
one-at-most (Some s) = omega arith

-- a change adds two at most, its record and the transaction's End
pub owed-below : (t : TxnId) (c : Parts) → owed_where (home t) (max (owed_at c (home t)) (owed_then t c)) c ≤ owed_above c + 2
owed-below t c =
    let i : ℕ = home t in
    let own : ℕ = max (owed_at c i) (owed_then t c) in
    let one = one-at-most (row_for t c).span in
    let near : own ≤ owes_above c i + 2 = omega (arith, one) in
    (sum-near (λ j. cond (eqb j i) own (owes_most c j)) (owes_above c) i 2 8
    (λ j ne. subst (λ (b : Bool). cond b own (owes_most c j) ≤ owes_above c j) (sym (ne_eqb j i ne))
    (low-above (is_loose c j) (tells_log (status_at c j)) (owed_at c j) (owed_of (txns_at c j))))
    (subst (λ (b : Bool). cond b own (owes_most c i) ≤ owes_above c i + 2) (sym (eq-eqb i i refl)) near)).0

-- ---- the asks for a page

-- those that are open where it is stay
pub all-open : (place : PageEntry) (P : Ask → Type 0) (asks : List Ask) → Each (λ ask. P ask × (is_open_ask place ask ≡ true)) asks
    → open_asks place asks ≡ asks
all-open place P [] each = refl
all-open place P (ask ∷ asks) each =
    filter-cons (is_open_ask place) ask asks each.0.1 ∙ ap (λ (xs : List Ask). ask ∷ xs) (all-open place P asks each.1)

-- ---- the image with a change

pub applied-redone : (k : Change) (op : Op) (image : Page) → op.slot ≡ k.rid.slot → op.capacity ≡ k.capacity → after_of op ≡ k.after
    → k.rid.slot ≤ length image.slots → applied op k.lsn image ≡ redo image (flat_of k)
applied-redone k op image slot capacity after le =
    let slots : written image.slots op.slot op.capacity (after_of op) ≡ write image.slots k.rid.slot k.capacity k.after =
    ap (λ s. written image.slots s op.capacity (after_of op)) slot ∙ ap (λ n. written image.slots k.rid.slot n (after_of op)) capacity
    ∙ ap (λ v. written image.slots k.rid.slot k.capacity v) after ∙ sym (write-written image.slots k.rid.slot k.capacity k.after le) in
    λ n. record { lsn = k.lsn; number = image.number; slots = slots n }

-- ---- answers

-- an error that another call handed on
pub err-moved : {A B : Type 0} (q : Result A Refusal) (r : Result B Refusal) (y e f : Refusal) → q ≡ Err e → r ≡ Err y → y ≡ e
    → r ≡ Err f → q ≡ Err f
err-moved q r y e f a b same is = cc

pub memory-only : {A : Type 0} (r : Result A Refusal) → IfErr r (λ e. e ≡ refusals.Memory) → r ≡ Err refusals.LsnEnd → ⊥
memory-only (Ok x) only e = absurd (cc)
memory-only (Err y) only e = absurd (cc)

pub memory-last : {A : Type 0} (r : Result A Refusal) → IfErr r (λ e. e ≡ refusals.Memory)
    → IfErr r (λ e. (e ≡ refusals.LogFull) ⊎ ((e ≡ refusals.LsnEnd) ⊎ (e ≡ refusals.Memory)))
memory-last (Ok x) only = only
memory-last (Err y) only = inr (inr only)

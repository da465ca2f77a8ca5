-- What the records behind a later place say of the log: its spans, its last LSN, and the LSNs that it reaches. For the laws.
use Rattle.std.proofs.Common.{◌≡◌, ⊎_elim, ℕ, ◌≤◌, Bool, true, false, ◌||◌, cond, List, [], ◌∷◌, ◌++◌, map, refl, sym, ap, ◌∙◌, arith}
use Rattle.std.specs.Prelude.{Option, None, Some}
use Rattle.std.specs.List.{list_any}
use Rattle.std.proofs.lemmas.Bool.{cases_Bool, le-leb, leb-true}
use Rattle.std.proofs.lemmas.List.Folds.{list_any-append}
use Rattle.sd_base.specs.declared.ids.TxnId.{TxnId}
use Rattle.sd_base.specs.declared.place.Status.{Status}
use Rattle.sd_logrec.specs.declared.record.Record.{Record}
use Rattle.sd_logrec.specs.Kept.{Whole, master}
use Rattle.sd_logrec.specs.View.{Rec, flat}
use Rattle.sd_log.specs.Logs.{LogState, last_lsn, scanned}
use Rattle.sd_model.specs.Lives.{IsFallen, SuitsStatus}
use Rattle.sd_model.specs.declared.act.Life.{Life}
use Rattle.sd_chain.specs.Order.{of_txn, span_from, span_of}
use Rattle.sd_chain.specs.Records.{Each}
use Rattle.sd_chain.specs.Logs.{after_records, base_at, past_at, records_at}
use Rattle.sd_chain.proofs.Kept.{flat-records, forced-idle}
use Rattle.sd_chain.proofs.Follows.{after-append}
use Rattle.sd_chain.proofs.Lsns.{last-is}
use Rattle.sd_chain.proofs.Pasts.{lsn_after}
use Rattle.sd_chain.specs.Checks.{Past, after_record, past_of, placed_of}
use Rattle.sd_state.specs.Good.{reaches}
use Rattle.sd_state.specs.Values.{is_doubt}
use Rattle.sd_state.proofs.ChangedLists.{reached}

-- ---- of who has nothing in front

pub any-behind : (test : Rec → Bool) (front left : List Rec) → list_any test front ≡ false
    → list_any test (front ++ left) ≡ list_any test left
any-behind test front left none = list_any-append test front left ∙ ap (λ (b : Bool). b || list_any test left) none

-- whoever has no record in front has the span of those behind
pub span-behind : (t : TxnId) (front left : List Rec) → Each (λ x. of_txn t x ≡ false) front
    → span_of t (front ++ left) ≡ span_of t left
span-behind t [] left a = refl
span-behind t (x ∷ front) left a =
    ap (λ (b : Bool). span_from t (cond {A = Option (ℕ × ℕ)} b (Some (x.lsn, x.lsn)) None) (front ++ left)) a.0
    ∙ span-behind t front left a.1

pub doubt-fell : (l : Life) (s : Status) → is_doubt l ≡ true → SuitsStatus l s → IsFallen s
doubt-fell Life.Gone s e h = absurd (cc)
doubt-fell Life.Running s e h = absurd (cc)
doubt-fell Life.Retained s e h = absurd (cc)
doubt-fell (Life.Rolling to) s e h = absurd (cc)
doubt-fell (Life.Doubt cut) s e h = h

pub or-right : (p : Bool) (q : Bool) → q ≡ true → (p || q) ≡ true
or-right true q e = refl
or-right false q e = e

-- the greatest LSN is reached behind, so what is reached is
lower-reached : (lsn last : ℕ) → lsn ≤ last → (xs : List Rec) → list_any (reaches last) xs ≡ true
    → list_any (reaches lsn) xs ≡ true
lower-reached lsn last le [] e = absurd (cc)
lower-reached lsn last le (x ∷ xs) e = ⊎_elim
    (λ on. let far = leb-true last x.lsn on in ap (λ (q : Bool). q || list_any (reaches lsn) xs)
    (le-leb lsn x.lsn (omega (arith, le, far))))
    (λ off. or-right (reaches lsn x) (list_any (reaches lsn) xs)
    (lower-reached lsn last le xs (sym (ap (λ (q : Bool). q || list_any (reaches last) xs) off) ∙ e)))
    (cases_Bool (reaches last x))

pub reached-later : (last lsn : ℕ) (xs left : List Rec) → Each (λ x. x.lsn ≤ last) xs → list_any (reaches last) left ≡ true
    → list_any (reaches lsn) xs ≡ true → list_any (reaches lsn) left ≡ true
reached-later last lsn xs left a kept e = lower-reached lsn last (reached lsn last xs e a) left kept

-- ---- the last LSN of a log hangs on its last record alone

same-lsn : (p q : Past) (rs : List Record) → p.lsn ≡ q.lsn → (after_records p rs).lsn ≡ (after_records q rs).lsn
same-lsn p q [] e = e
same-lsn p q (r ∷ rs) e = same-lsn (after_record p r) (after_record q r) rs (lsn_after p r ∙ sym (lsn_after q r))

behind-lsn : (p : Past) (test : Rec → Bool) (gone left : List Record) → list_any test (map flat left) ≡ true
    → (after_records p (gone ++ left)).lsn ≡ (after_records p left).lsn
behind-lsn p test gone [] some = absurd (cc)
behind-lsn p test gone (r ∷ left) some =
    ap (λ (q : Past). q.lsn) (after-append p gone (r ∷ left))
    ∙ same-lsn (after_record (after_records p gone) r) (after_record p r) left
    (lsn_after (after_records p gone) r ∙ sym (lsn_after p r))

pub last-left : (gone : List Record) (l l' : LogState) → records_at l ≡ gone ++ records_at l' → l.tail ≡ [] → l'.tail ≡ []
    → (lsn : ℕ)
    → list_any (reaches lsn) (base_at l') ≡ true → last_lsn (scanned l') ≡ last_lsn (scanned l)
last-left gone l l' records tail tail' lsn some =
    sym (last-is (master []) l')
    ∙ ap (λ (k : LogState). (past_at (master []) k).lsn) (forced-idle l' tail')
    ∙ sym (behind-lsn (past_of (master [])) (reaches lsn) gone (records_at l')
    (ap (list_any (reaches lsn)) (flat-records (placed_of (Whole l'.groups l'.gate))) ∙ some))
    ∙ ap (λ (rs : List Record). (after_records (past_of (master [])) rs).lsn) (sym records)
    ∙ ap (λ (k : LogState). (past_at (master []) k).lsn) (sym (forced-idle l tail))
    ∙ last-is (master []) l

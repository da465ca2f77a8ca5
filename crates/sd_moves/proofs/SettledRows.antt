-- The rows of an instance whose log is settled and read again: they name whom they named, as the log has them. For `settle_log`.
use Rattle.std.proofs.Common.{◌≡◌, ◌≢◌, inl, inr, ⊎_elim, ℕ, Bool, true, false, cond, List, [], ◌∷◌, map, reverse, refl, sym, ap, ◌∙◌, subst}
use Rattle.std.specs.Prelude.{None, Option, Some}
use Rattle.std.specs.List.{list_any}
use Rattle.std.proofs.lemmas.Bool.{cases_Bool}
use Rattle.std.proofs.lemmas.List.{map-append, reverse-append}
use Rattle.sd_base.specs.declared.ids.TxnId.{TxnId}
use Rattle.sd_base.specs.declared.place.Status.{Status}
use Rattle.sd_base.specs.declared.place.Status.TheVariants as S
use Rattle.sd_logrec.specs.View.{Rec}
use Rattle.sd_model.specs.Lives.{SuitsStatus}
use Rattle.sd_model.specs.State.{Part}
use Rattle.sd_model.specs.declared.act.Life.{Life}
use Rattle.sd_txn.specs.Transactions.{Transaction, started}
use Rattle.sd_txn.specs.declared.state.OpenRec.{OpenRec}
use Rattle.sd_txn.specs.declared.state.TxnState.{TxnState}
use Rattle.sd_chain.specs.Checks.{open_in}
use Rattle.sd_chain.specs.Fates.{Fate, fate}
use Rattle.sd_chain.specs.Order.{of_txn, span_of, span_from, spanned}
use Rattle.sd_chain.specs.Records.{stack}
use Rattle.sd_chain.proofs.Members.{is-open_in, open_in-is}
use Rattle.sd_chain.proofs.Whose.{neither, none_open, stack-none}
use Rattle.sd_recovered.specs.Kept.{as_transaction, is_left_open, left_open, open_rec}
use Rattle.sd_recovered.proofs.Walking.{any-member, member-any}
use Rattle.sd_state.specs.Tables.{GoesOn, NamesLife, RowIsLogged, StandsAs}
use Rattle.sd_state.specs.Values.{Pending, open_of}
use Rattle.sd_moves.specs.Settling.{row_again}

-- it stands as it stood
pub stands-again : (log : List Rec) (t : TxnId) (state : TxnState) → (as_transaction log t state).state ≡ state
stands-again log t state = by (is_left_open log t)
  where
    by : (b : Bool) → (cond {A = Transaction} b (left_open log t state) (started state)).state ≡ state
    by true = refl
    by false = refl

-- so it names whom it named,
pub names-again : (o : Option Transaction) (log : List Rec) (t : TxnId) (life : Life) (f w : Fate)
    → NamesLife o life f w → NamesLife (row_again log t o) life f w
names-again None log t life f w n = n
names-again (Some x) log t life f w n = subst (λ (s : TxnState). StandsAs s life f w) (sym (stands-again log t x.state)) n

-- the row stands as committed
abbrev pub IsFound : Option Transaction → Type 0
IsFound None = ⊥
IsFound (Some x) = x.state ≡ TxnState.Committed

-- also where the log has this of it, no Commit that it didn't have, and that of one that was found
pub names-later : (o : Option Transaction) (life : Life) (f w n : Fate) → (n ≡ Fate.Committed → w ≡ Fate.Committed)
    → (IsFound o → f ≡ Fate.Committed → n ≡ Fate.Committed) → NamesLife o life f w → NamesLife o life n n
names-later None life f w n fewer more h = h
names-later (Some x) life f w n fewer more h = by x.state refl h
  where
    by : (s : TxnState) → x.state ≡ s → StandsAs s life f w → StandsAs s life n n
    by TxnState.Running e h = h
    by (TxnState.Rolling to) e h = h
    by TxnState.Retained e h = ⊎_elim (λ r. inl r) (λ d. inr (d.0, λ c. d.2 (fewer c), λ c. d.2 (fewer c))) h
    by TxnState.Doubt e h = h
    by TxnState.Committed e h = (h.0, more e h.1)

-- ---- what a row has of its log

turned : {A B : Type 0} (f : A → B) (xs : List A) → reverse (map f (reverse xs)) ≡ map f xs
turned f [] = refl
turned {A} {B} f (x ∷ xs) = ap (λ (l : List A). reverse (map f l)) (reverse-append (x ∷ []) xs)
    ∙ ap reverse (map-append f (reverse xs) (x ∷ [])) ∙ reverse-append (map f (reverse xs)) (f x ∷ [])
    ∙ ap (λ (l : List B). f x ∷ l) (turned f xs)

-- the record as its undo wants it, by either name
same-open : (xs : List Rec) → map open_rec xs ≡ map open_of xs
same-open [] = refl
same-open (x ∷ xs) = ap (λ (l : List OpenRec). open_of x ∷ l) (same-open xs)

-- who has no record has no first one
span-none : (t : TxnId) (log : List Rec) → list_any (of_txn t) log ≡ false → span_of t log ≡ None
span-none t [] e = refl
span-none t (x ∷ xs) e = let n = neither (of_txn t x) (list_any (of_txn t) xs) e in
    ap (λ (o : Option (ℕ × ℕ)). span_from t o xs) (by n.0) ∙ span-none t xs n.1
  where
    by : of_txn t x ≡ false → spanned t None x ≡ None
    by off = rw off refl

-- The row has what the log has, where the log leaves nobody open whom the table lacks.
pub row-told : (o : Option Transaction) (log : List Rec) (t : TxnId) → (o ≡ None → fate t log ≡ Fate.Open → ⊥)
    → RowIsLogged (row_again log t o) t log
row-told None log t none = none refl
row-told (Some x) log t none = ⊎_elim
    (λ is. subst (λ (b : Bool). RowIsLogged (Some (cond {A = Transaction} b (left_open log t x.state) (started x.state))) t log)
    (sym is) (inl (record {
      alive = (open_in-is t log (any-member t (open_in log) is)).0;
      open_ones = turned open_rec (stack t log) ∙ same-open (stack t log);
      span = refl;
    })))
    (λ off. subst (λ (b : Bool). RowIsLogged (Some (cond {A = Transaction} b (left_open log t x.state) (started x.state))) t log)
    (sym off) (⊎_elim
    (λ has. inr (record {
      ended = λ runs. let e = sym off ∙ member-any t (open_in log) (is-open_in t log runs has) in absurd (cc);
      emptied = refl;
      span = refl;
    }))
    (λ off. inl (record {
      alive = none_open t log off;
      open_ones = sym (ap (map open_of) (stack-none t log off));
      span = sym (span-none t log off);
    }))
    (cases_Bool (list_any (of_txn t) log))))
    (cases_Bool (is_left_open log t))

-- who is of an instance that isn't up has no further records
pub rests : (t : TxnId) (p : Part) (status : Status) → status ≢ S.Up → SuitsStatus p.life status → GoesOn Pending.Idle t p → ⊥
rests t p status down stands goes = by p.life stands goes
  where
    never : (s : Status) → s ≢ S.Up → SuitsStatus Life.Running s → ⊥
    never S.Up ne h = ne refl
    never S.Down ne h = h
    never (S.Recovering by) ne h = h
    never S.Clean ne h = h
    never S.Restarting ne h = h
    never S.Closed ne h = h

    by : (life : Life) → SuitsStatus life status → GoesOn Pending.Idle t (record p { life = life }) → ⊥
    by Life.Gone stands goes = goes
    by Life.Running stands goes = never status down stands
    by Life.Retained stands goes = goes
    by (Life.Rolling to) stands goes = never status down stands
    by (Life.Doubt cut) stands goes = goes

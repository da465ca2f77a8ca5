-- A Commit that came to a log: the table that recovery gives then, where it is kept and where it isn't. For the law of commits.
use Rattle.std.proofs.Common.{◌≡◌, ◌≢◌, ℕ, Bool, true, false, cond, eqb, List, [], ◌∷◌, ◌++◌, ◌&&◌, ◌||◌, refl, sym, ap, ap₂, ◌∙◌, append_assoc, append-nil, ⊎_elim}
use Rattle.std.specs.Prelude.{filter, map}
use Rattle.std.specs.List.{list_any}
use Rattle.std.proofs.lemmas.Bool.{cases_Bool, cases_eq}
use Rattle.std.proofs.lemmas.List.{map-append}
use Rattle.std.proofs.lemmas.List.Elements.{filter-append}
use Rattle.std.proofs.lemmas.List.Folds.{list_any-append}
use Rattle.sd_base.specs.declared.ids.TxnId.{TxnId}
use Rattle.sd_base.specs.Ids.{same_rid}
use Rattle.sd_base.proofs.SameIds.{eq-same, ne-same}
use Rattle.sd_logrec.specs.View.{Rec, flat}
use Rattle.sd_logrec.specs.View.Kind.{Commit}
use Rattle.sd_logrec.specs.declared.record.Record.{Record}
use Rattle.sd_model.specs.Acts.{Puts, after, live, seen_over}
use Rattle.sd_model.specs.State.{State}
use Rattle.sd_model.specs.Tables.{Contents}
use Rattle.sd_model.specs.declared.act.Done.{Done}
use Rattle.sd_chain.specs.Fates.{commits, is_commit}
use Rattle.sd_chain.specs.Images as images
use Rattle.sd_chain.specs.Images.{Keeps, log}
use Rattle.sd_chain.specs.Records.{Each, IsOpen, Val, at, home, stack}
use Rattle.sd_chain.proofs.Fates.{open-endless}
use Rattle.sd_chain.specs.Logs.{Logs, ReplacesLog, all_at, base_at, kept_logs, tail_at, tails_of}
use Rattle.sd_log.specs.Logs.{with_record}
use Rattle.sd_chain.proofs.Appends.{kept-elsewhere, kept-old, kept-with, kept-without}
use Rattle.sd_state.specs.Values.{Pending, as_done, decided, is_committed, is_doubt, put_of, values}

-- what open records put of a record of the table, where they have one of it,
seen-top : (base : Contents) (p s : ℕ) (stk : List Rec) (top : Rec) (below : List Rec) → filter (at p s) stk ≡ top ∷ below
    → seen_over base (map put_of stk) (record { page = p; slot = s }) ≡ top.after
unfolding same_rid
seen-top base p s [] top below is = absurd (cc)
seen-top base p s (x ∷ xs) top below is = by (eqb x.page p && eqb x.slot s) (seen-top base p s xs top below) is
  where
    after_of : List Rec → Val
    after_of [] = x.after
    after_of (z ∷ zs) = z.after

    by : (b : Bool) → (filter (at p s) xs ≡ top ∷ below → seen_over base (map put_of xs) (record { page = p; slot = s }) ≡ top.after)
        → cond b (x ∷ filter (at p s) xs) (filter (at p s) xs) ≡ top ∷ below
        → cond b x.after (seen_over base (map put_of xs) (record { page = p; slot = s })) ≡ top.after
    by true ih e = ap after_of e
    by false ih e = ih e

-- and where they have none
seen-none : (base : Contents) (p s : ℕ) (stk : List Rec) → filter (at p s) stk ≡ []
    → seen_over base (map put_of stk) (record { page = p; slot = s }) ≡ base (record { page = p; slot = s })
unfolding same_rid
seen-none base p s [] is = refl
seen-none base p s (x ∷ xs) is = by (eqb x.page p && eqb x.slot s) (seen-none base p s xs) is
  where
    by : (b : Bool) → (filter (at p s) xs ≡ []
        → seen_over base (map put_of xs) (record { page = p; slot = s }) ≡ base (record { page = p; slot = s }))
        → cond b (x ∷ filter (at p s) xs) (filter (at p s) xs) ≡ []
        → cond b x.after (seen_over base (map put_of xs) (record { page = p; slot = s })) ≡ base (record { page = p; slot = s })
    by true ih e = absurd (cc)
    by false ih e = ih e

after-append : (start : Contents) (done more : List Done) → after start (done ++ more) ≡ after (after start done) more
after-append start [] more = refl
after-append start (d ∷ done) more = after-append (seen_over start (live d.acts)) done more

filter-each : (P Q : TxnId → Bool) (xs : List TxnId) → Each (λ u. P u ≡ Q u) xs → filter P xs ≡ filter Q xs
filter-each P Q [] e = refl
filter-each P Q (x ∷ xs) e = ap₂ (λ (b : Bool) (l : List TxnId). cond b (x ∷ l) l) e.0 (filter-each P Q xs e.1)

each-filter : (D : TxnId → Bool) (P : TxnId → Type 0) → ((u : TxnId) → D u ≡ true → P u) → (xs : List TxnId)
    → Each P (filter D xs)
each-filter D P f [] = tt
each-filter D P f (x ∷ xs) = by (D x) (each-filter D P f xs) refl
  where
    by : (b : Bool) → Each P (filter D xs) → D x ≡ b → Each P (cond b (x ∷ filter D xs) (filter D xs))
    by true ih e = (f x e, ih)
    by false ih e = ih

module _ (i spare : ℕ) (y : Record) (logs logs' : Logs) (at_end : ReplacesLog i (with_record y spare (logs i)) logs logs')
    (m : State)
    (kind : (flat y).kind ≡ Commit) (own : home (flat y).txn ≡ i) (runs : is_doubt (m.part (flat y).txn).life ≡ false)
    (alive : IsOpen (flat y).txn (all_at (logs i)))
    (tie : live (m.part (flat y).txn).acts ≡ map put_of (stack (flat y).txn (all_at (logs i)))) where
  abbrev t : TxnId
  t = (flat y).txn

  abbrev old_in : Keeps → ℕ → List Rec
  old_in keeps = kept_logs (tails_of logs) keeps

  abbrev new_in : Keeps → ℕ → List Rec
  new_in keeps = kept_logs (tails_of logs') keeps

  -- the commits of others
  others-stay : (keeps : Keeps) (u : TxnId) → u ≢ t → is_committed (new_in keeps) u ≡ is_committed (old_in keeps) u
  others-stay keeps u ne = ⊎_elim
      (λ kept. ⊎_elim
      (λ e. ap (λ (j : ℕ). list_any (commits u) (new_in keeps j)) e
      ∙ ap (list_any (commits u)) (kept-with i logs logs' y spare at_end keeps kept)
      ∙ list_any-append (commits u) (all_at (logs i)) (flat y ∷ [])
      ∙ ap (λ (b : Bool). list_any (commits u) (all_at (logs i)) || ((is_commit (flat y).kind && b) || false))
      (ne-same t u (λ z. ne (sym z)))
      ∙ nothing (list_any (commits u) (all_at (logs i))) (is_commit (flat y).kind)
      ∙ ap (list_any (commits u)) (sym (kept-old i logs logs' y spare at_end keeps kept))
      ∙ ap (λ (j : ℕ). list_any (commits u) (old_in keeps j)) (sym e))
      (λ nj. ap (list_any (commits u)) (kept-elsewhere i logs logs' y spare at_end keeps (home u) nj))
      (cases_eq (home u) i))
      (λ dropped. ap (list_any (commits u)) (kept-without i logs logs' y spare at_end keeps dropped (home u)))
      (cases_Bool (keeps i))
    where
      nothing : (a b : Bool) → (a || ((b && false) || false)) ≡ a
      nothing true true = refl
      nothing true false = refl
      nothing false true = refl
      nothing false false = refl

  -- the Commit stands where the tail is kept,
  here-kept : (keeps : Keeps) → keeps i ≡ true → is_committed (new_in keeps) t ≡ true
  here-kept keeps kept =
      ap (λ (j : ℕ). list_any (commits t) (new_in keeps j)) own
      ∙ ap (list_any (commits t)) (kept-with i logs logs' y spare at_end keeps kept)
      ∙ list_any-append (commits t) (all_at (logs i)) (flat y ∷ [])
      ∙ ap₂ (λ (a b : Bool). list_any (commits t) (all_at (logs i)) || ((a && b) || false)) (ap is_commit kind) (eq-same t t refl)
      ∙ either (list_any (commits t) (all_at (logs i)))
    where
      either : (b : Bool) → (b || true) ≡ true
      either true = refl
      either false = refl

  -- and where it isn't, none does
  here-dropped : (keeps : Keeps) → keeps i ≡ false → is_committed (new_in keeps) t ≡ false
  here-dropped keeps dropped =
      ap (λ (j : ℕ). list_any (commits t) (new_in keeps j)) own
      ∙ ap (list_any (commits t)) (kept-without i logs logs' y spare at_end keeps dropped i)
      ∙ ap (λ (b : Bool). list_any (commits t) (base_at (logs i) ++ cond b (tail_at (logs i)) [])) dropped
      ∙ ap (list_any (commits t)) (append-nil (base_at (logs i)))
      ∙ front (list_any (commits t) (base_at (logs i))) (list_any (commits t) (tail_at (logs i)))
      (sym (list_any-append (commits t) (base_at (logs i)) (tail_at (logs i))) ∙ (open-endless t (all_at (logs i)) alive).0)
    where
      front : (a b : Bool) → (a || b) ≡ false → a ≡ false
      front true b e = absurd (cc)
      front false b e = refl

  -- those that a cut decides: as before, and t where its Commit is kept
  decided-is : (keeps : Keeps) (b : Bool) → is_committed (new_in keeps) t ≡ b
      → decided m (Pending.Commits t) (new_in keeps) ≡ decided m Pending.Idle (old_in keeps) ++ cond b (as_done m t ∷ []) []
  decided-is keeps b is =
      ap (map (as_done m)) (filter-append (is_committed (new_in keeps)) doubts (t ∷ []))
      ∙ map-append (as_done m) (filter (is_committed (new_in keeps)) doubts) (filter (is_committed (new_in keeps)) (t ∷ []))
      ∙ ap₂ (λ (a c : List Done). a ++ c)
      (ap (map (as_done m)) (filter-each (is_committed (new_in keeps)) (is_committed (old_in keeps)) doubts
      (each-filter (λ u. is_doubt (m.part u).life) (λ u. is_committed (new_in keeps) u ≡ is_committed (old_in keeps) u)
      (λ u d. others-stay keeps u
      (λ e. let c = sym d ∙ ap (λ (v : TxnId). is_doubt (m.part v).life) e ∙ runs in absurd (cc))) m.cuts)
      ∙ ap (filter (is_committed (old_in keeps))) (sym (append-nil doubts))))
      (ap (λ (c : Bool). map (as_done m) (cond c (t ∷ []) [])) is ∙ pushed b)
    where
      doubts : List TxnId
      doubts = filter (λ u. is_doubt (m.part u).life) m.cuts

      pushed : (c : Bool) → map (as_done m) (cond c (t ∷ []) []) ≡ cond c (as_done m t ∷ []) []
      pushed true = refl
      pushed false = refl

  abbrev old_done : Keeps → List Done
  old_done keeps = m.done ++ decided m Pending.Idle (old_in keeps)

  value-kept : (keeps : Keeps) → keeps i ≡ true → (p s : ℕ) → values m (Pending.Commits t) (new_in keeps) p s
      ≡ seen_over (after m.start (old_done keeps)) (map put_of (stack t (all_at (logs i)))) (record { page = p; slot = s })
  value-kept keeps kept p s =
      ap (λ (d : List Done). after m.start (m.done ++ d) (record { page = p; slot = s }))
      (decided-is keeps true (here-kept keeps kept))
      ∙ ap (λ (d : List Done). after m.start d (record { page = p; slot = s }))
      (sym (append_assoc m.done (decided m Pending.Idle (old_in keeps)) (as_done m t ∷ [])))
      ∙ ap (λ (f : Contents). f (record { page = p; slot = s })) (after-append m.start (old_done keeps) (as_done m t ∷ []))
      ∙ ap (λ (l : Puts). seen_over (after m.start (old_done keeps)) l (record { page = p; slot = s })) tie

  value-dropped : (keeps : Keeps) → keeps i ≡ false → (p s : ℕ)
      → values m (Pending.Commits t) (new_in keeps) p s ≡ values m Pending.Idle (old_in keeps) p s
  value-dropped keeps dropped p s = ap (λ (d : List Done). after m.start (m.done ++ d) (record { page = p; slot = s }))
      (decided-is keeps false (here-dropped keeps dropped) ∙ append-nil (decided m Pending.Idle (old_in keeps)))

  stack-at : stack t (log (tails_of logs) (home t)) ≡ stack t (all_at (logs i))
  stack-at = ap (λ (j : ℕ). stack t (all_at (logs j))) own

  -- the record commits t
  pub commits-it : images.Commits i (flat y) (tails_of logs) (λ keeps. values m Pending.Idle (old_in keeps))
      (λ keeps. values m (Pending.Commits t) (new_in keeps))
  commits-it = record {
    changed = λ keeps kept p s top below is. value-kept keeps kept p s
        ∙ seen-top (after m.start (old_done keeps)) p s (stack t (all_at (logs i))) top below
        (ap (filter (at p s)) (sym stack-at) ∙ is);
    unchanged = λ keeps p s none. ⊎_elim
        (λ kept. value-kept keeps kept p s
        ∙ seen-none (after m.start (old_done keeps)) p s (stack t (all_at (logs i))) (ap (filter (at p s)) (sym stack-at) ∙ none))
        (λ dropped. value-dropped keeps dropped p s)
        (cases_Bool (keeps i));
    without = λ keeps dropped p s. value-dropped keeps dropped p s;
  }

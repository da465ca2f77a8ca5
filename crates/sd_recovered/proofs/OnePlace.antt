-- The first check that fails tells one place. It serves the goal of laws.rt.
use Rattle.std.proofs.Common.{◌≡◌, ◌⊎◌, inl, inr, ⊎_elim, ℕ, zero, suc, ◌+◌, ◌<◌, ◌≤◌, Bool, true, false, ◌&&◌, cond, ltb, le-ltb, List, [], ◌∷◌, ◌++◌, map, Option, Some, slice_get, refl, sym, ap, ◌∙◌, subst, arith}
use Rattle.std.specs.Prelude.{filter, is_some, option_map}
use Rattle.std.proofs.lemmas.Bool.{cases_lt}
use Rattle.std.proofs.lemmas.Option.{same_Some, slice_get-map}
use Rattle.sd_base.specs.declared.ids.TxnId.{TxnId}
use Rattle.sd_base.specs.Twin.{chosen_body}
use Rattle.sd_base.proofs.Orders.{below_or_above}
use Rattle.sd_base.proofs.SameIds.{cases_txn}
use Rattle.sd_logrec.specs.declared.record.Record.{Record}
use Rattle.sd_logrec.specs.Kept.{BadGroup, Master, NoRecord, Reading, Records, Whole, kept, master}
use Rattle.sd_logrec.specs.View.{Kind, Rec, flat}
use Rattle.sd_logrec.specs.View.Kind.{Clr, Commit, End, Plain, Update}
use Rattle.sd_page.specs.Page.{Page}
use Rattle.sd_rig.specs.Devices.{DeviceImages}
use Rattle.sd_chain.specs.Bytes.{log_of, records_of, stable}
use Rattle.sd_chain.specs.Checks.{Follow, MasterIsSound, Past, TwinIsSound, after_record, gate_of, past_of, placed_of, records_in}
use Rattle.sd_chain.specs.Faults as faults
use Rattle.sd_chain.specs.Faults.{BreaksAt, ChainFailsAt, ChainIsSound, ChainsAreSound, FailsFirstAt, FailsInChain, FailsInLog, FailsInRoom, FailsInStack, FailsInTwin, GroupsFailAt, IsMisplaced, LogFailsAt, LogIsSound, LogsAreSound, MasterPasses, StacksAreSound, StraysAt, TwinFailsAt, TwinsAreSound, TxnsFailAt, disk_of}
use Rattle.sd_chain.specs.Order.{speaks}
use Rattle.sd_chain.specs.Pages.{FitAll, FitsPage, redo, replay}
use Rattle.sd_chain.specs.Records.{Each, changes, home, of_page, stack}
use Rattle.sd_chain.specs.Storage.{all_of, chain}
use Rattle.sd_chain.proofs.Chains.{FitAll-back}
use Rattle.sd_chain.proofs.Lists.{Each-all, Each-back, Each-filter, Each-sorted}
use Rattle.sd_chain.proofs.Whose.{both}
use Rattle.sd_redo.specs.Changes.{Rises}
use Rattle.sd_recovered.proofs.DeviceFaults.{fails_not, strays_not}
use Rattle.sd_recovered.proofs.Misplaced.{tidy_not}
use Rattle.sd_recovered.proofs.Own.{IsOf, are_of}
use Rattle.sd_recovered.proofs.PageSlots.{unsound_twin}
use Rattle.sd_recovered.proofs.Placed.{follow_rises}

-- two numbers that are both the first of which this doesn't hold
first_same : (P : ℕ → Type 0) (a b : ℕ) → ((j : ℕ) → j < a → P j) → (P a → ⊥) → ((j : ℕ) → j < b → P j) → (P b → ⊥) → a ≡ b
first_same P a b below_a not_a below_b not_b = ⊎_elim
    (λ lt. absurd (not_a (below_b a lt)))
    (λ ge. ⊎_elim (λ lt. absurd (not_b (below_a b lt))) (λ le. omega (arith, ge, le)) (cases_lt b a))
    (cases_lt a b)

-- ---- records at their places

same_place : (o : Option (ℕ × Record)) (p q : ℕ) (x y : Record) → o ≡ Some (p, x) → o ≡ Some (q, y) → p ≡ q
same_place o p q x y e f = ap (λ (r : ℕ × Record). r.0) (same_Some (p, x) (q, y) (sym e ∙ f))

each_at : {A : Type 0} (P : A → Type 0) (xs : List A) (k : ℕ) (x : A) → Each P xs → slice_get xs k ≡ Some x → P x
each_at P [] k x each e = absurd (cc)
each_at P (y ∷ ys) zero x each e = subst P (cc) each.0
each_at P (y ∷ ys) (suc k) x each e = each_at P ys k x each.1 e

-- one LSN stands at one index
rising_same : (xs : List Rec) (i j : ℕ) (x y : Rec) → Rises xs → slice_get xs i ≡ Some x → slice_get xs j ≡ Some y → x.lsn ≡ y.lsn → i ≡ j
rising_same [] i j x y rises e f same = absurd (cc)
rising_same (z ∷ zs) zero zero x y rises e f same = refl
rising_same (z ∷ zs) zero (suc j) x y rises e f same =
    let lt = each_at (λ w. z.lsn < w.lsn) zs j y rises.0 f in
    let is : z ≡ x = cc in let here : z.lsn ≡ x.lsn = ap (λ (r : Rec). r.lsn) is in absurd (omega (arith, lt, here, same))
rising_same (z ∷ zs) (suc i) zero x y rises e f same =
    let lt = each_at (λ w. z.lsn < w.lsn) zs i x rises.0 e in
    let is : z ≡ y = cc in let here : z.lsn ≡ y.lsn = ap (λ (r : Rec). r.lsn) is in absurd (omega (arith, lt, here, same))
rising_same (z ∷ zs) (suc i) (suc j) x y rises e f same = ap (λ n. suc n) (rising_same zs i j x y rises.1 e f same)

record_there : (bytes : List ℕ) (k place : ℕ) (r : Record) → slice_get (placed_of (kept bytes)) k ≡ Some (place, r)
    → slice_get (records_in bytes) k ≡ Some r
record_there bytes k place r e =
    slice_get-map (λ (p : ℕ × Record). p.1) (placed_of (kept bytes)) k ∙ ap (option_map (λ (p : ℕ × Record). p.1)) e

flat_there : (bytes : List ℕ) (k place : ℕ) (r : Record) → slice_get (placed_of (kept bytes)) k ≡ Some (place, r)
    → slice_get (map flat (records_in bytes)) k ≡ Some (flat r)
flat_there bytes k place r e = slice_get-map flat (records_in bytes) k ∙ ap (option_map flat) (record_there bytes k place r e)

-- of a log that is sound, records with one LSN stand at one place
placed_same : (inst : ℕ) (bytes : List ℕ) → LogIsSound inst bytes → (i j p q : ℕ) (x y : Record)
    → slice_get (placed_of (kept bytes)) i ≡ Some (p, x) → slice_get (placed_of (kept bytes)) j ≡ Some (q, y) → flat x ≡ flat y → p ≡ q
placed_same inst bytes sound i j p q x y e f same =
    let rises : Rises (map flat (records_in bytes)) =
    follow_rises inst (is_some (chosen_body 0 64 bytes)) (master bytes) (past_of (master bytes)) (records_in bytes) sound.groups.follow in
    let index : i ≡ j = rising_same (map flat (records_in bytes)) i j (flat x) (flat y) rises
    (flat_there bytes i p x e) (flat_there bytes j q y f) (ap (λ (r : Rec). r.lsn) same) in
    same_place (slice_get (placed_of (kept bytes)) i) p q x y e (ap (slice_get (placed_of (kept bytes))) index ∙ f)

-- of a sound log, a record that has a transaction has one of the log's instance
home_is : (inst : ℕ) (bytes : List ℕ) → LogIsSound inst bytes → (k place : ℕ) (r : Record)
    → slice_get (placed_of (kept bytes)) k ≡ Some (place, r) → speaks (flat r).kind ≡ true → home (flat r).txn ≡ inst
home_is inst bytes sound k place r e =
    each_at (IsOf inst) (records_in bytes) k r
    (are_of inst (is_some (chosen_body 0 64 bytes)) (master bytes) (past_of (master bytes)) (records_in bytes) sound.groups.follow)
    (record_there bytes k place r e)

-- ---- 1 to 3: logs

strays_same : (inst : ℕ) (chosen : Bool) (m : Master) (past : Past) (rs : Records) (p q : ℕ)
    → StraysAt inst chosen m past rs p → StraysAt inst chosen m past rs q → p ≡ q
strays_same inst chosen m past [] p q s t = absurd s
strays_same inst chosen m past (r ∷ rs) p q (inl s) (inl t) = s.1 ∙ sym t.1
strays_same inst chosen m past (r ∷ rs) p q (inl s) (inr t) = absurd (s.0 t.0)
strays_same inst chosen m past (r ∷ rs) p q (inr s) (inl t) = absurd (t.0 s.0)
strays_same inst chosen m past (r ∷ rs) p q (inr s) (inr t) = strays_same inst chosen m (after_record past r.1) rs p q s.1 t.1

breaks_same : (r : Reading) (p q : ℕ) → BreaksAt r p → BreaksAt r q → p ≡ q
breaks_same (Whole groups gate) p q b c = absurd b
breaks_same (BadGroup at) p q b c = b ∙ sym c
breaks_same (NoRecord at) p q b c = b ∙ sym c

module _ (inst : ℕ) (bytes : List ℕ) where
  strays_first : (p : ℕ) → StraysAt inst (is_some (chosen_body 0 64 bytes)) (master bytes) (past_of (master bytes)) (faults.front_of bytes) p
      → Follow inst (is_some (chosen_body 0 64 bytes)) (master bytes) (past_of (master bytes)) (map (λ x. x.1) (faults.front_of bytes)) → ⊥
  strays_first p s f = strays_not inst (is_some (chosen_body 0 64 bytes)) (master bytes) (past_of (master bytes)) (faults.front_of bytes) p s f

  groups_same : (p q : ℕ) → GroupsFailAt inst bytes p → GroupsFailAt inst bytes q → p ≡ q
  groups_same p q (inl s) (inl t) =
      strays_same inst (is_some (chosen_body 0 64 bytes)) (master bytes) (past_of (master bytes)) (faults.front_of bytes) p q s t
  groups_same p q (inl s) (inr t) = absurd (strays_first p s t.0)
  groups_same p q (inr s) (inl t) = absurd (strays_first q t s.0)
  groups_same p q (inr s) (inr t) = breaks_same (kept bytes) p q s.1 t.1

  txns_same : (p q : ℕ) → TxnsFailAt bytes p → TxnsFailAt bytes q → p ≡ q
  txns_same p q f g =
      let log : List Rec = map flat (records_in bytes) in
      let index : f.index ≡ g.index = first_same (λ k. IsMisplaced log k → ⊥) f.index g.index
      f.first.least (λ none. none f.first.wrong) g.first.least (λ none. none g.first.wrong) in
      same_place (slice_get (placed_of (kept bytes)) f.index) p q f.rec g.rec f.there (ap (slice_get (placed_of (kept bytes))) index ∙ g.there)

  passes : MasterIsSound bytes → MasterPasses bytes
  passes m = record { slots = record { differ = m.differ; first = m.first; second = m.second }; checkpoint = λ whole. m.ended }

  log_same : (at at' : ℕ) → LogFailsAt inst bytes at → LogFailsAt inst bytes at' → at ≡ at'
  log_same at at' (inl f) (inl g) = f.1 ∙ sym g.1
  log_same at at' (inl f) (inr (inl g)) = absurd (f.0 g.0)
  log_same at at' (inl f) (inr (inr g)) = absurd (f.0 (passes g.0))
  log_same at at' (inr (inl f)) (inl g) = absurd (g.0 f.0)
  log_same at at' (inr (inl f)) (inr (inl g)) =
      f.1.2 ∙ ap (λ (n : ℕ). 130 + n) (groups_same f.1.0 g.1.0 f.1.1 g.1.1) ∙ sym g.1.2
  log_same at at' (inr (inl f)) (inr (inr g)) = absurd (fails_not inst bytes at (inr f) g.0 g.1)
  log_same at at' (inr (inr f)) (inl g) = absurd (g.0 (passes f.0))
  log_same at at' (inr (inr f)) (inr (inl g)) = absurd (fails_not inst bytes at' (inr g) f.0 f.1)
  log_same at at' (inr (inr f)) (inr (inr g)) =
      f.2.2 ∙ ap (λ (n : ℕ). 130 + n) (txns_same f.2.0 g.2.0 f.2.1 g.2.1) ∙ sym g.2.2

  log_not : (at : ℕ) → LogFailsAt inst bytes at → LogIsSound inst bytes → ⊥
  log_not at (inl f) sound = fails_not inst bytes at (inl f) sound.master sound.groups
  log_not at (inr (inl f)) sound = fails_not inst bytes at (inr f) sound.master sound.groups
  log_not at (inr (inr f)) sound = tidy_not (map flat (records_in bytes)) f.2.1.index sound.txns f.2.1.first.wrong

-- ---- 4: a twin

twin_same : (p : ℕ) (bytes : List ℕ) (at at' : ℕ) → TwinFailsAt p bytes at → TwinFailsAt p bytes at' → at ≡ at'
twin_same p bytes at at' (inl f) (inl g) = f.1 ∙ sym g.1
twin_same p bytes at at' (inl f) (inr g) = absurd (g.0 f.0)
twin_same p bytes at at' (inr f) (inl g) = absurd (f.0 g.0)
twin_same p bytes at at' (inr f) (inr g) = f.2 ∙ sym g.2

-- ---- 5: a chain

-- two records of a chain, each the first that doesn't fit
misfit_same : (floor : ℕ) (page : Page) (a b c d : List Rec) (x y : Rec) → a ++ x ∷ b ≡ c ++ y ∷ d
    → FitAll floor page a → FitAll floor page c → floor < x.lsn → floor < y.lsn
    → (FitsPage (replay floor page a) x → ⊥) → (FitsPage (replay floor page c) y → ⊥) → x ≡ y
misfit_same floor page [] b [] d x y e fit_a fit_c up_x up_y bad_x bad_y = cc
misfit_same floor page [] b (z ∷ c) d x y e fit_a fit_c up_x up_y bad_x bad_y =
    let same : z ≡ x = cc in
    absurd (bad_x (subst (FitsPage page) same (fit_c.0 (subst (λ (r : Rec). floor < r.lsn) (sym same) up_x))))
misfit_same floor page (z ∷ a) b [] d x y e fit_a fit_c up_x up_y bad_x bad_y =
    let same : z ≡ y = cc in
    absurd (bad_y (subst (FitsPage page) same (fit_a.0 (subst (λ (r : Rec). floor < r.lsn) (sym same) up_y))))
misfit_same floor page (z ∷ a) b (w ∷ c) d x y e fit_a fit_c up_x up_y bad_x bad_y =
    let same : w ≡ z = cc in
    let rest : a ++ x ∷ b ≡ c ++ y ∷ d = cc in
    let after : Rec → Page = λ r. cond (ltb floor r.lsn) (redo page r) page in
    misfit_same floor (after z) a b c d x y rest fit_a.1
    (subst (λ (r : Rec). FitAll floor (after r) c) same fit_c.1) up_x up_y bad_x
    (subst (λ (r : Rec). FitsPage (replay floor (after r) c) y → ⊥) same bad_y)

changes_speaks : (k : Kind) → changes k ≡ true → speaks k ≡ true
changes_speaks Update is = refl
changes_speaks Clr is = refl
changes_speaks Commit is = refl
changes_speaks End is = refl
changes_speaks Plain is = is

speaks_there : (p : ℕ) (x : Rec) → of_page p x ≡ true → speaks x.kind ≡ true
speaks_there p x is = changes_speaks x.kind (both (changes x.kind) _ is).0

chain_speaks : (devices : DeviceImages) (p : ℕ) → Each (λ x. speaks x.kind ≡ true) (chain (stable devices) p)
unfolding chain
chain_speaks devices p =
    Each-sorted (λ x. speaks x.kind ≡ true) (filter (of_page p) (all_of (log_of devices) 9))
    (Each-filter (λ x. speaks x.kind ≡ true) (of_page p) (all_of (log_of devices) 9)
    (Each-all (λ x. of_page p x ≡ true → speaks x.kind ≡ true) (speaks_there p) (all_of (log_of devices) 9)))

-- ---- 6: a stack

last_same : (a b : List Rec) (x y : Rec) → a ++ x ∷ [] ≡ b ++ y ∷ [] → x ≡ y
last_same [] [] x y e = cc
last_same [] (z ∷ []) x y e = absurd (cc)
last_same [] (z ∷ w ∷ b) x y e = absurd (cc)
last_same (z ∷ []) [] x y e = absurd (cc)
last_same (z ∷ w ∷ a) [] x y e = absurd (cc)
last_same (z ∷ a) (w ∷ b) x y e = last_same a b x y (cc)

nothing_last : (a : List Rec) (x : Rec) → [] ≡ a ++ x ∷ [] → ⊥
nothing_last [] x e = absurd (cc)
nothing_last (z ∷ a) x e = absurd (cc)

-- a log that has records is one of eight
inside : (devices : DeviceImages) (j : ℕ) → ((1 ≤ j) × (j ≤ 8)) ⊎ (log_of devices j ≡ [])
inside devices j = ⊎_elim
    (λ lo. ⊎_elim
    (λ hi. inl (omega (arith, lo), omega (arith, hi)))
    (λ far. inr (ap (λ b. cond {A = List Rec} (ltb 0 j && b) (records_of (kept (devices j))) []) (le-ltb j 9 far) ∙ none (ltb 0 j)))
    (cases_lt j 9))
    (λ zero. inr (ap (λ b. cond {A = List Rec} (b && ltb j 9) (records_of (kept (devices j))) []) (le-ltb 0 j zero)))
    (cases_lt 0 j)
  where
    none : (b : Bool) → cond {A = List Rec} (b && false) (records_of (kept (devices j))) [] ≡ []
    none true = refl
    none false = refl

module _ (devices : DeviceImages) where
  -- ---- the first of the five

  in_log_same : (dev at dev' at' : ℕ) → FailsInLog devices dev at → FailsInLog devices dev' at' → (dev ≡ dev') × (at ≡ at')
  in_log_same dev at dev' at' f g =
      let same : dev ≡ dev' = first_same (λ j. 1 ≤ j → LogIsSound j (devices j)) dev dev'
      (λ j lt some. f.before j some lt) (λ sound. log_not dev (devices dev) at f.here (sound f.some))
      (λ j lt some. g.before j some lt) (λ sound. log_not dev' (devices dev') at' g.here (sound g.some)) in
      (same, log_same dev (devices dev) at at' f.here (subst (λ (n : ℕ). LogFailsAt n (devices n) at') (sym same) g.here))

  in_log_not : (dev at : ℕ) → FailsInLog devices dev at → LogsAreSound devices → ⊥
  in_log_not dev at f sound = log_not dev (devices dev) at f.here (sound dev f.some f.few)

  -- ---- the second

  in_twin_same : (dev at dev' at' : ℕ) → FailsInTwin devices dev at → FailsInTwin devices dev' at' → (dev ≡ dev') × (at ≡ at')
  in_twin_same dev at dev' at' f g =
      let page : f.page ≡ g.page = first_same (λ p. TwinIsSound p (devices 0)) f.page g.page
      f.before (unsound_twin f.page (devices 0) at f.here) g.before (unsound_twin g.page (devices 0) at' g.here) in (
        f.data_device ∙ sym g.data_device,
        twin_same f.page (devices 0) at at' f.here (subst (λ (p : ℕ). TwinFailsAt p (devices 0) at') (sym page) g.here),
      )

  in_twin_not : (dev at : ℕ) → FailsInTwin devices dev at → TwinsAreSound devices → ⊥
  in_twin_not dev at f sound = unsound_twin f.page (devices 0) at f.here (sound f.page f.few)

  -- ---- the third

  chain_not : (p dev at : ℕ) → ChainFailsAt devices p dev at → ChainIsSound devices p → ⊥
  chain_not p dev at f sound =
      let d : Page = disk_of devices p in
      f.misfit ((FitAll-back d.lsn d f.before (flat f.rec ∷ f.behind) (subst (FitAll d.lsn d) f.parts sound)).0 f.above)

  chain_home : LogsAreSound devices → (p dev at : ℕ) (f : ChainFailsAt devices p dev at) → home (flat f.rec).txn ≡ dev
  chain_home sound p dev at f =
      home_is dev (devices dev) (sound dev f.some f.few) f.index f.place f.rec f.there
      (Each-back (λ x. speaks x.kind ≡ true) f.before (flat f.rec ∷ f.behind)
      (subst (Each (λ x. speaks x.kind ≡ true)) f.parts (chain_speaks devices p))).0

  chain_same : LogsAreSound devices → (p dev at dev' at' : ℕ) → ChainFailsAt devices p dev at → ChainFailsAt devices p dev' at'
      → (dev ≡ dev') × (at ≡ at')
  chain_same sound p dev at dev' at' f g =
      let d : Page = disk_of devices p in
      let same : flat f.rec ≡ flat g.rec = misfit_same d.lsn d f.before f.behind g.before g.behind (flat f.rec) (flat g.rec)
      (sym f.parts ∙ g.parts) f.fits g.fits f.above g.above f.misfit g.misfit in
      let dev_same : dev ≡ dev' =
      sym (chain_home sound p dev at f) ∙ ap (λ (x : Rec). home x.txn) same ∙ chain_home sound p dev' at' g in
      let place : f.place ≡ g.place = placed_same dev (devices dev) (sound dev f.some f.few) f.index g.index f.place g.place f.rec g.rec
      f.there (subst (λ (n : ℕ). slice_get (placed_of (kept (devices n))) g.index ≡ Some (g.place, g.rec)) (sym dev_same) g.there) same in
      (dev_same, f.at_is ∙ ap (λ (n : ℕ). 130 + n) place ∙ sym g.at_is)

  in_chain_same : LogsAreSound devices → (dev at dev' at' : ℕ) → FailsInChain devices dev at → FailsInChain devices dev' at'
      → (dev ≡ dev') × (at ≡ at')
  in_chain_same sound dev at dev' at' f g =
      let page : f.page ≡ g.page = first_same (ChainIsSound devices) f.page g.page
      f.before (chain_not f.page dev at f.here) g.before (chain_not g.page dev' at' g.here) in
      chain_same sound f.page dev at dev' at' f.here (subst (λ (p : ℕ). ChainFailsAt devices p dev' at') (sym page) g.here)

  in_chain_not : (dev at : ℕ) → FailsInChain devices dev at → ChainsAreSound devices → ⊥
  in_chain_not dev at f sound = chain_not f.page dev at f.here (sound f.page f.few)

  -- ---- the fourth

  lowest_same : LogsAreSound devices → (t : TxnId) (at at' : ℕ) → faults.StandsLowest devices t at → faults.StandsLowest devices t at' → at ≡ at'
  lowest_same sound t at at' f g = ⊎_elim
      (λ here.
      let place : f.place ≡ g.place = placed_same t.inst (devices t.inst) (sound t.inst here.0 here.1) f.index g.index f.place g.place
      f.rec g.rec f.there g.there (last_same f.above g.above (flat f.rec) (flat g.rec) (sym f.parts ∙ g.parts)) in
      f.at_is ∙ ap (λ (n : ℕ). 130 + n) place ∙ sym g.at_is)
      (λ none. absurd (nothing_last f.above (flat f.rec) (sym (ap (stack t) none) ∙ f.parts)))
      (inside devices t.inst)

  txn_same : (dev at dev' at' : ℕ) (f : FailsInStack devices dev at) (g : FailsInStack devices dev' at') → f.txn ≡ g.txn
  txn_same dev at dev' at' f g = ⊎_elim
      (λ same. same)
      (λ ne. ⊎_elim
      (λ below. absurd (f.wrong (g.before f.txn below f.open_)))
      (λ above. absurd (g.wrong (f.before g.txn above g.open_)))
      (below_or_above f.txn g.txn ne))
      (cases_txn f.txn g.txn)

  in_stack_same : LogsAreSound devices → (dev at dev' at' : ℕ) → FailsInStack devices dev at → FailsInStack devices dev' at'
      → (dev ≡ dev') × (at ≡ at')
  in_stack_same sound dev at dev' at' f g =
      let txn : f.txn ≡ g.txn = txn_same dev at dev' at' f g in (
        f.home ∙ ap (λ (t : TxnId). t.inst) txn ∙ sym g.home,
        lowest_same sound f.txn at at' f.lowest (subst (λ (t : TxnId). faults.StandsLowest devices t at') (sym txn) g.lowest),
      )

  in_stack_not : (dev at : ℕ) → FailsInStack devices dev at → StacksAreSound devices → ⊥
  in_stack_not dev at f sound = f.wrong (sound f.txn f.open_)

  -- ---- the fifth

  in_room_same : (dev at dev' at' : ℕ) → FailsInRoom devices dev at → FailsInRoom devices dev' at' → (dev ≡ dev') × (at ≡ at')
  in_room_same dev at dev' at' f g =
      let same : dev ≡ dev' = first_same (λ j. 1 ≤ j → faults.EndsFit j devices) dev dev'
      (λ j lt some. f.before j some lt) (λ ends. f.wrong (ends f.some))
      (λ j lt some. g.before j some lt) (λ ends. g.wrong (ends g.some)) in
      (same, f.at_is ∙ ap (λ (n : ℕ). 130 + gate_of (kept (devices n))) same ∙ sym g.at_is)

  -- ---- all

  module _ (dev at : ℕ) where
    abbrev Fifth : Type 0
    Fifth = LogsAreSound devices × TwinsAreSound devices × ChainsAreSound devices × StacksAreSound devices × FailsInRoom devices dev at

    abbrev FromFourth : Type 0
    FromFourth = (LogsAreSound devices × TwinsAreSound devices × ChainsAreSound devices × FailsInStack devices dev at) ⊎ Fifth

    abbrev FromThird : Type 0
    FromThird = (LogsAreSound devices × TwinsAreSound devices × FailsInChain devices dev at) ⊎ FromFourth

    abbrev FromSecond : Type 0
    FromSecond = (LogsAreSound devices × FailsInTwin devices dev at) ⊎ FromThird

    logs_first : FromSecond → LogsAreSound devices
    logs_first (inl f) = f.0
    logs_first (inr (inl f)) = f.0
    logs_first (inr (inr (inl f))) = f.0
    logs_first (inr (inr (inr f))) = f.0

    twins_first : FromThird → TwinsAreSound devices
    twins_first (inl f) = f.1
    twins_first (inr (inl f)) = f.1
    twins_first (inr (inr f)) = f.1

    chains_first : FromFourth → ChainsAreSound devices
    chains_first (inl f) = f.2
    chains_first (inr f) = f.2

  pub one_place : (dev at dev' at' : ℕ) → FailsFirstAt devices dev at → FailsFirstAt devices dev' at' → (dev ≡ dev') × (at ≡ at')
  one_place dev at dev' at' (inl f) (inl g) = in_log_same dev at dev' at' f g
  one_place dev at dev' at' (inl f) (inr g) = absurd (in_log_not dev at f (logs_first dev' at' g))
  one_place dev at dev' at' (inr f) (inl g) = absurd (in_log_not dev' at' g (logs_first dev at f))
  one_place dev at dev' at' (inr (inl f)) (inr (inl g)) = in_twin_same dev at dev' at' f.1 g.1
  one_place dev at dev' at' (inr (inl f)) (inr (inr g)) = absurd (in_twin_not dev at f.1 (twins_first dev' at' g))
  one_place dev at dev' at' (inr (inr f)) (inr (inl g)) = absurd (in_twin_not dev' at' g.1 (twins_first dev at f))
  one_place dev at dev' at' (inr (inr (inl f))) (inr (inr (inl g))) = in_chain_same f.0 dev at dev' at' f.2 g.2
  one_place dev at dev' at' (inr (inr (inl f))) (inr (inr (inr g))) = absurd (in_chain_not dev at f.2 (chains_first dev' at' g))
  one_place dev at dev' at' (inr (inr (inr f))) (inr (inr (inl g))) = absurd (in_chain_not dev' at' g.2 (chains_first dev at f))
  one_place dev at dev' at' (inr (inr (inr (inl f)))) (inr (inr (inr (inl g)))) = in_stack_same f.0 dev at dev' at' f.3 g.3
  one_place dev at dev' at' (inr (inr (inr (inl f)))) (inr (inr (inr (inr g)))) = absurd (in_stack_not dev at f.3 g.3)
  one_place dev at dev' at' (inr (inr (inr (inr f)))) (inr (inr (inr (inl g)))) = absurd (in_stack_not dev' at' g.3 f.3)
  one_place dev at dev' at' (inr (inr (inr (inr f)))) (inr (inr (inr (inr g)))) = in_room_same dev at dev' at' f.4 g.4

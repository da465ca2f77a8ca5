-- Behind the joins of an opening pools are emptied: each copy that an instance has and that isn't up goes. It serves the goals of `openings`
-- in laws.rt.
use Rattle.std.proofs.Common.{◌≡◌, ◌⊎◌, inl, inr, ⊎_elim, ℕ, zero, suc, ◌+◌, ◌-◌, ◌<◌, ◌≤◌, Bool, true, false, cond, ltb, refl, sym, ap, ◌∙◌, subst, arith}
use Rattle.std.specs.Prelude.{Option, None, Some, option_map, ◌&&◌}
use Rattle.std.specs.Option.{option_or}
use Rattle.std.proofs.lemmas.Bool.{cases_eq, cases_lt}
use Rattle.sd_base.specs.declared.place.Status.TheVariants as S
use Rattle.sd_base.specs.Standing.{is_up}
use Rattle.sd_model.specs.State.{State}
use Rattle.sd_model.proofs.Placed.{each_inst}
use Rattle.sd_pagelock.specs.Places.{PageEntry, changed, holds, passes, uses}
use Rattle.sd_pagelock.specs.Rows.{fallen, may_evict, written}
use Rattle.sd_pagelock.proofs.Uses.{holds-written, passes-written}
use Rattle.sd_world.specs.Pages.{Pages, is_duty, page_placed}
use Rattle.sd_world.specs.Serving.{Core}
use Rattle.sd_drive.specs.Behind.{OnlyUpHave}
use Rattle.sd_drive.specs.Driving.{Cursor, Known, empties, first_from, leaver, leavers, lets_go, next_copy}
use Rattle.sd_drive.specs.Pulls.{Pull}
use Rattle.sd_drive.proofs.Quiet.{Quiet, placed-at, placed-both}
use Rattle.sd_drive.proofs.Singles.{Works, clean-goes, evicted-gains, evicted-rests, holder-rests, holds-uses, uses-holds, written-gains, written-goes, yes_no}
use Rattle.sd_drive.proofs.Finding.{Found, first-found, first-missed}
use Rattle.sd_drive.proofs.Stands.{EmptyTo, Lands, Leaves, Settled, Stands, up-is}

none_left : {A : Type 0} → false ≡ true → A
none_left e = absurd (cc)

-- ---- pools that are emptied

-- no copy is left
emptied-all : (m : State) (w : Pages) (i : ℕ) → 9 ≤ i → Settled m w → EmptyTo i 0 m w → OnlyUpHave m w
emptied-all m w i past t empty p k below used =
    let r = t.rests in
    let high = (r.0.used p k used).2 in
    ⊎_elim (λ up. up)
    (λ behind. ⊎_elim (λ lt. absurd (omega (arith, lt, high, past))) (λ here. let at = here.0 in absurd (omega (arith, at, high, past))) behind)
    (empty p k below (uses-holds k (w.entry p) (r.1 p) used))

-- i lets a copy go next, or none, and the next instance follows
abbrev LeavesOn : Core → ℕ → Option Cursor → Type 0
LeavesOn w i None = EmptyTo (i + 1) 0 w.scene.state w.pages
LeavesOn w i (Some c) = Stands w.scene.state w.pages c Pull.Idle

copy-is : (w : Pages) (i p : ℕ) → next_copy w i p ≡ first_from (λ (q : ℕ). holds (w.entry q) i) p (1024 - p)
unfolding next_copy
copy-is w i p = refl

module _ (w : Core) (t : Settled w.scene.state w.pages) where
  abbrev here-m : State
  here-m = w.scene.state

  module _ (i p : ℕ) (empty : EmptyTo i p here-m w.pages) where
    -- none of i is left, or it is up
    pass-on : ((q : ℕ) → p ≤ q → q < 1024 → holds (w.pages.entry q) i ≡ true → (here-m.inst i).status ≡ S.Up) → EmptyTo (i + 1) 0 here-m w.pages
    pass-on none q k below has = ⊎_elim (λ up. inl up)
        (λ behind. ⊎_elim
        (λ lt. inr (⊎_elim (λ same. inr (sym same, omega arith)) (λ ne. inl (omega (arith, lt, ne))) (cases_eq (i + 1) k)))
        (λ here. inl (subst (λ (j : ℕ). (here-m.inst j).status ≡ S.Up) (sym here.0)
        (none q here.1 below (subst (λ (j : ℕ). holds (w.pages.entry q) j ≡ true) here.0 has))))
        behind)
        (empty q k below has)

    -- this copy goes next
    goes-next : (q : ℕ) → Found (λ (x : ℕ). holds (w.pages.entry x) i) q p (1024 - p) → Stands here-m w.pages (lets_go w.pages i q) Pull.Idle
    goes-next q found = go (changed (w.pages.entry q) && is_duty i (w.pages.entry q)) refl
      where
        leaves : Leaves here-m w.pages i q Pull.Idle
        leaves = record {
          idle = refl;
          settled = t;
          empty = λ x k below has. ⊎_elim (λ up. inl up)
              (λ behind. ⊎_elim (λ lt. inr (inl lt))
              (λ here. inr (inr (
                here.0,
                ⊎_elim
                    (λ before. yes_no (subst (λ (j : ℕ). holds (w.pages.entry x) j ≡ true) here.0 has) (found.3 x here.1 before))
                    (λ le. le)
                    (cases_lt x q),
              )))
              behind)
              (empty x k below has);
          has = found.2;
        }

        second : (b c : Bool) → (b && c) ≡ true → c ≡ true
        second true c h = h
        second false c h = none_left h

        go : (b : Bool) → (changed (w.pages.entry q) && is_duty i (w.pages.entry q)) ≡ b
            → Stands here-m w.pages (cond {A = Cursor} b (Cursor.Flushes i q) (Cursor.Evicts i q)) Pull.Idle
        go true duty = (leaves, second (changed (w.pages.entry q)) (is_duty i (w.pages.entry q)) duty)
        go false clean = (leaves, clean-goes i (w.pages.entry q) (t.rests.0.single q) found.2 clean)

    leaver-lands : LeavesOn w i (leaver w i p)
    leaver-lands = go (is_up (here-m.inst i).status) refl (next_copy w.pages i p) (sym (copy-is w.pages i p))
      where
        some : (o : Option ℕ) → first_from (λ (q : ℕ). holds (w.pages.entry q) i) p (1024 - p) ≡ o
            → LeavesOn w i (option_map (λ (q : ℕ). lets_go w.pages i q) o)
        some None none = pass-on (λ q from below has. yes_no has
            (first-missed (λ (x : ℕ). holds (w.pages.entry x) i) p (1024 - p) none q from (omega (arith, from, below))))
        some (Some q) found = goes-next q (first-found (λ (x : ℕ). holds (w.pages.entry x) i) p (1024 - p) q found)

        go : (b : Bool) → is_up (here-m.inst i).status ≡ b → (o : Option ℕ)
            → first_from (λ (q : ℕ). holds (w.pages.entry q) i) p (1024 - p) ≡ o
            → LeavesOn w i (cond {A = Option Cursor} b None (option_map (λ (q : ℕ). lets_go w.pages i q) o))
        go true up o found = pass-on (λ q from below has. up-is (here-m.inst i).status up)
        go false absent o found = some o found

  or-lands : (i : ℕ) (a b : Option Cursor) → LeavesOn w i a → (EmptyTo (i + 1) 0 here-m w.pages → Lands here-m w.pages b)
      → Lands here-m w.pages (option_or a b)
  or-lands i None b h next = next h
  or-lands i (Some c) b h next = h

  leavers-lands : (i n : ℕ) → i + n ≡ 9 → EmptyTo i 0 here-m w.pages → Lands here-m w.pages (leavers w i n)
  unfolding leavers
  leavers-lands i zero count empty = (t.none, emptied-all here-m w.pages i (omega (arith, count)) t empty)
  leavers-lands i (suc n) count empty = or-lands i (leaver w i 0) (leavers w (i + 1) n) (leaver-lands i 0 empty)
      (λ behind. leavers-lands (i + 1) n (omega (arith, count)) behind)

  pub empties-lands : (i p : ℕ) → i ≤ 8 → EmptyTo i p here-m w.pages → Lands here-m w.pages (empties w i p)
  empties-lands i p high empty = or-lands i (leaver w i p) (leavers w (i + 1) (8 - i)) (leaver-lands i p empty)
      (λ behind. leavers-lands (i + 1) (8 - i) (omega (arith, high)) behind)

  first-empty : EmptyTo 1 0 here-m w.pages
  first-empty q k below has =
      let low = (t.rests.0.used q k (holds-uses k (w.pages.entry q) has)).1 in
      inr (⊎_elim (λ same. inr (sym same, omega arith)) (λ ne. inl (omega (arith, low, ne))) (cases_eq 1 k))

  pub joins-lands : (known : Known) (i : ℕ) → Lands here-m w.pages (cond {A = Option Cursor} (ltb i known.insts) (Some (Cursor.Joins (i + 1))) (leavers w 1 8))
  joins-lands known i = go (ltb i known.insts)
    where
      go : (b : Bool) → Lands here-m w.pages (cond {A = Option Cursor} b (Some (Cursor.Joins (i + 1))) (leavers w 1 8))
      go true = (refl, t)
      go false = leavers-lands 1 8 refl first-empty

-- ---- a page that is written, and a copy that goes

module _ (m : State) (w : Pages) (i p : ℕ) (pull : Pull) (l : Leaves m w i p pull) where
  abbrev copy : PageEntry
  copy = w.entry p

  quiet-now : Quiet m w
  quiet-now = l.settled.rests.0

  pub leaver-works : Works m i
  leaver-works = quiet-now.used p i (holds-uses i copy l.has)

  pub written-stands : Stands m (page_placed p (written copy) w) (Cursor.Evicts i p) Pull.Idle
  written-stands =
      let g = written-gains i copy (quiet-now.single p) in
      let goes = written-goes i copy (quiet-now.single p) l.has in
      let there = placed-at p (written copy) w in
      let none = l.settled.none in (
        record {
          idle = refl;
          settled = record {
            none = none;
            rests = placed-both m w l.settled.rests p i (written copy) g leaver-works (passes-written copy ∙ holder-rests i copy (quiet-now.single p) l.has);
          };
          empty = λ x k below has. each_inst p
              (λ (y : ℕ) (f : PageEntry). y < 1024 → holds f k ≡ true → ((m.inst k).status ≡ S.Up) ⊎ ((i < k) ⊎ ((k ≡ i) × (p ≤ y))))
              (written copy) w.entry (λ lt h. l.empty p k lt (sym (holds-written k copy) ∙ h)) (λ y ne lt h. l.empty y k lt h) x below has;
          has = ap (λ (f : PageEntry). holds f i) there ∙ goes.0;
        },
        ap (λ (f : PageEntry). may_evict i f) there ∙ goes.1,
      )

  module _ (may : may_evict i copy ≡ true) where
    gone : (passes (fallen i copy) ≡ false) × ((k : ℕ) → uses (fallen i copy) k ≡ false)
    gone = evicted-rests i copy (quiet-now.single p) may

    pub gone-settled : Settled m (page_placed p (fallen i copy) w)
    gone-settled = record {
      none = l.settled.none;
      rests = placed-both m w l.settled.rests p i (fallen i copy) (evicted-gains i copy (quiet-now.single p) may) leaver-works gone.0;
    }

    pub gone-empty : EmptyTo i (p + 1) m (page_placed p (fallen i copy) w)
    gone-empty x k below has = each_inst p
        (λ (y : ℕ) (f : PageEntry). y < 1024 → holds f k ≡ true → ((m.inst k).status ≡ S.Up) ⊎ ((i < k) ⊎ ((k ≡ i) × (p + 1 ≤ y))))
        (fallen i copy) w.entry (λ lt h. yes_no (holds-uses k (fallen i copy) h) (gone.1 k))
        (λ y ne lt h. ⊎_elim (λ up. inl up)
        (λ behind. ⊎_elim (λ past. inr (inl past))
        (λ here. let from = here.1 in inr (inr (here.0, omega (arith, from, ne))))
        behind)
        (l.empty y k lt h)) x below has

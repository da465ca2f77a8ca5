-- What events of pages leave of a recovery that is under way: for the goals of the calls.
use Rattle.std.proofs.Common.{◌≡◌, ◌≢◌, ◌⊎◌, inl, inr, ⊎_elim, ℕ, ◌<◌, ◌≤◌, Bool, true, false, cond, List, refl, sym, ap, ◌∙◌, subst, arith, eqb, eq-eqb, ne_eqb, eqb-true}
use Rattle.std.specs.Prelude.{None, ◌&&◌, get_or, is_none, length}
use Rattle.std.proofs.lemmas.Bool.{cases_eq}
use Rattle.std.proofs.lemmas.List.{get_or-set_other, get_or-set_same}
use Rattle.sd_base.specs.Standing.{active_as}
use Rattle.sd_base.specs.declared.place.Place.TheVariants as variants
use Rattle.sd_base.specs.declared.place.Status.{Status}
use Rattle.sd_base.specs.declared.place.Status.TheVariants as S
use Rattle.sd_fits.specs.Resting.{LeavesRest, count_to}
use Rattle.sd_fits.specs.Untouched.{FallTouches, only}
use Rattle.sd_fits.proofs.Refused.{unlike}
use Rattle.sd_fits.proofs.Resting.{count-less, count-one, rests-same}
use Rattle.sd_log.specs.Logs.{has_tail}
use Rattle.sd_moves.specs.Falling.{falls_at, is_recovered_by, owed_dropped, unsettles_at}
use Rattle.sd_moves.specs.Places.{IsAsked, with_directory}
use Rattle.sd_moves.specs.Putting.{with_loose_disk, with_written}
use Rattle.sd_page.specs.Page.{Page}
use Rattle.sd_pagelock.specs.Directory.{DirectoryState, entry_at}
use Rattle.sd_pagelock.specs.Moves.{IsMove}
use Rattle.sd_pagelock.specs.Places.{Formed, PageEntry, is_lost}
use Rattle.sd_pagelock.specs.declared.queue.Ask.{Ask}
use Rattle.sd_pagelock.proofs.Losses.{never_lost}
use Rattle.sd_state.specs.Locking.{IsSet}
use Rattle.sd_state.specs.Parts.{Parts, is_active, is_loose, log_at, status_at, txns_at}
use Rattle.sd_transfer.specs.Forcing.{OnlyLogs}
use Rattle.sd_transfer.specs.Paging.{OnlyPages}

-- ---- nobody fell

-- statuses and tables stay, no device is marked, and no page lost
pub calm-rests : (old new : Parts) → ((j : ℕ) → status_at new j ≡ status_at old j) → ((j : ℕ) → txns_at new j ≡ txns_at old j)
    → ((d : ℕ) → d ≢ 0 → is_loose new d ≡ is_loose old d) → (is_loose new 0 ≡ true → is_loose old 0 ≡ true)
    → ((p : ℕ) → is_lost (entry_at new.directory p) ≡ true → is_lost (entry_at old.directory p) ≡ true) → LeavesRest old new
calm-rests old new statuses tables marks disk lost = record {
  recovered = λ i by is. (sym (statuses i) ∙ is, tables i, marks i (none i by is));
  others = inr (
    statuses,
    (λ d on. ⊎_elim
        (λ e. subst (λ (k : ℕ). is_loose old k ≡ true) (sym e) (disk (subst (λ (k : ℕ). is_loose new k ≡ true) e on)))
        (λ ne. sym (marks d ne) ∙ on)
        (cases_eq d 0)),
    lost,
  );
}
  where
    none : (i by : ℕ) → status_at new i ≡ S.Recovering by → i ≢ 0
    none i by is e = let clash : S.Closed ≡ S.Recovering by = subst (λ (k : ℕ). status_at new k ≡ S.Recovering by) e is in absurd (cc)

-- nothing happened
pub same-rest : (old new : Parts) → new ≡ old → LeavesRest old new
same-rest old new is = subst (LeavesRest old) (sym is) (rests-same old)

-- pages move, and none is lost
pub pages-rest : (old new : Parts) → OnlyPages old new
    → ((p : ℕ) → is_lost (entry_at new.directory p) ≡ true → is_lost (entry_at old.directory p) ≡ true) → LeavesRest old new
pages-rest old new is lost = calm-rests old new (λ j. ap (λ (k : Parts). status_at k j) is) (λ j. ap (λ (k : Parts). txns_at k j) is)
    (λ d ne. ap (λ (k : Parts). is_loose k d) is) (λ on. sym (ap (λ (k : Parts). is_loose k 0) is) ∙ on) lost

-- asks change
pub asked-rest : (p : ℕ) (asks : List Ask) (old new : Parts) → new ≡ with_directory new.directory old
    → IsAsked p asks old.directory new.directory → LeavesRest old new
asked-rest p asks old new is asked = pages-rest old new (subst (OnlyPages old) (sym is) refl)
    (λ q on. sym (ap is_lost (asked.in_place.entries q)) ∙ on)

-- a log is forced
pub logs-rest : (old new : Parts) → OnlyLogs old new → LeavesRest old new
logs-rest old new is = calm-rests old new (λ j. ap (λ (k : Parts). status_at k j) is) (λ j. ap (λ (k : Parts). txns_at k j) is)
    (λ d ne. ap (λ (k : Parts). is_loose k d) is) (λ on. sym (ap (λ (k : Parts). is_loose k 0) is) ∙ on)
    (λ p on. sym (ap (λ (k : Parts). is_lost (entry_at k.directory p)) is) ∙ on)

-- the data device is settled
settled-disk : (c : Parts) → length c.loose ≡ 9 → is_loose (with_loose_disk false c) 0 ≡ false
settled-disk c nine = get_or-set_same c.loose 0 false true (omega (arith, nine))

pub settled-rest : (old new : Parts) → length old.loose ≡ 9 → new ≡ with_loose_disk false old → LeavesRest old new
settled-rest old new nine is = calm-rests old new (λ j. ap (λ (k : Parts). status_at k j) is) (λ j. ap (λ (k : Parts). txns_at k j) is)
    (λ d ne. ap (λ (k : Parts). is_loose k d) is ∙ get_or-set_other old.loose 0 d false true ne)
    (λ on. unlike (ap (λ (k : Parts). is_loose k 0) is ∙ settled-disk old nine) on)
    (λ p on. sym (ap (λ (k : Parts). is_lost (entry_at k.directory p)) is) ∙ on)

-- and a page is on it
pub written-rest : (old new : Parts) → length old.loose ≡ 9 → new ≡ with_written new.directory old
    → ((p : ℕ) → is_lost (entry_at new.directory p) ≡ true → is_lost (entry_at old.directory p) ≡ true) → LeavesRest old new
written-rest old new nine is lost = calm-rests old new (λ j. ap (λ (k : Parts). status_at k j) is)
    (λ j. ap (λ (k : Parts). txns_at k j) is)
    (λ d ne. ap (λ (k : Parts). is_loose k d) is ∙ get_or-set_other old.loose 0 d false true ne)
    (λ on. unlike (ap (λ (k : Parts). is_loose k 0) is ∙ settled-disk old nine) on) lost

-- no row loses a page
pub moved-lost : (p : ℕ) (to : PageEntry) (old new : DirectoryState Page) → IsSet p to None old new → Formed (entry_at old p)
    → IsMove (entry_at old p) to → (q : ℕ) → is_lost (entry_at new q) ≡ true → is_lost (entry_at old q) ≡ true
moved-lost p to old new set formed move q lost = ⊎_elim
    (λ e. unlike (never_lost (get_or old.places p variants.Free) to formed move)
    (sym (ap is_lost set.entry) ∙ subst (λ (k : ℕ). is_lost (entry_at new k) ≡ true) e lost))
    (λ ne. sym (ap is_lost (set.others q ne)) ∙ lost)
    (cases_eq q p)

-- ---- somebody fell

-- so is each but k
abbrev without : ℕ → (ℕ → Bool) → ℕ → Bool
without k f d = cond (eqb d k) false (f d)

-- one of the first n is so no more, and none is so that wasn't
fewer : (f g : ℕ → Bool) (k n : ℕ) → k < n → f k ≡ true → g k ≡ false → ((d : ℕ) → g d ≡ true → f d ≡ true) → count_to g n < count_to f n
fewer f g k n lt on off less =
    let one = count-one f (without k f) k n lt on here else in
    let le = count-less (without k f) g n among in omega (arith, one, le)
  where
    here : without k f k ≡ false
    here = ap (λ (b : Bool). cond b false (f k)) (eq-eqb k k refl)

    else : (d : ℕ) → d ≢ k → without k f d ≡ f d
    else d ne = ap (λ (b : Bool). cond b false (f d)) (ne_eqb d k ne)

    among : (d : ℕ) → g d ≡ true → without k f d ≡ true
    among d is = ⊎_elim
        (λ e. unlike off (subst (λ (x : ℕ). g x ≡ true) e is))
        (λ ne. else d ne ∙ less d is)
        (cases_eq d k)

-- Instance j fell, and of the devices those failed at most that are its own log's, or the data device.
module _ (j : ℕ) (failed which : ℕ → Bool) (old new : Parts) (t : FallTouches j failed which old new) where
  -- who didn't fall stands as before
  stood : (i : ℕ) → falls_at j old i ≡ false → status_at new i ≡ status_at old i
  stood i stays = t.status i ∙ ap (λ (b : Bool). cond {A = Status} b S.Down (status_at old i)) stays

  fallen : (i : ℕ) → falls_at j old i ≡ true → status_at new i ≡ S.Down
  fallen i falls = t.status i ∙ ap (λ (b : Bool). cond {A = Status} b S.Down (status_at old i)) falls

  itself : falls_at j old j ≡ true
  itself = ap (λ (b : Bool). cond b true (is_recovered_by j (status_at old j))) (eq-eqb j j refl)

  -- who is recovered didn't fall
  none-fell : (i by : ℕ) → status_at new i ≡ S.Recovering by → falls_at j old i ≡ false
  none-fell i by is = go (falls_at j old i) refl
    where
      go : (b : Bool) → falls_at j old i ≡ b → b ≡ false
      go false e = refl
      go true e = let clash : S.Down ≡ S.Recovering by = sym (fallen i e) ∙ is in absurd (cc)

  active-before : (k : ℕ) → is_active new k ≡ true → is_active old k ≡ true
  active-before k on = go (falls_at j old k) refl
    where
      go : (b : Bool) → falls_at j old k ≡ b → is_active old k ≡ true
      go false e = sym (ap (active_as k) (stood k e)) ∙ on
      go true e = unlike (ap (active_as k) (fallen k e)) on

  module _ (active : is_active old j ≡ true) (high : j ≤ 8) (own : (d : ℕ) → failed d ≡ true → (d ≡ j) ⊎ (d ≡ 0)) where
    module _ (i by : ℕ) (is : status_at new i ≡ S.Recovering by) where
      other : i ≢ j
      other e = unlike (none-fell i by is) (subst (λ (k : ℕ). falls_at j old k ≡ true) (sym e) itself)

      there : i ≢ 0
      there e = let clash : S.Closed ≡ S.Recovering by = subst (λ (k : ℕ). status_at new k ≡ S.Recovering by) e is in absurd (cc)

      -- its log counts as unsettled only where it did
      unmarked : unsettles_at j old i ≡ false
      unmarked = ap (λ (b : Bool). cond b (is_none (owed_dropped j old)) (falls_at j old i && has_tail (log_at old i)))
          (ne_eqb j i (λ e. other (sym e)))
          ∙ ap (λ (b : Bool). b && has_tail (log_at old i)) (none-fell i by is)

      was-marked : is_loose new i ≡ true → is_loose old i ≡ true
      was-marked on = by-cause (t.loose i on)
        where
          by-cause : (is_loose old i ≡ true) ⊎ ((failed i ≡ true) ⊎ (unsettles_at j old i ≡ true)) → is_loose old i ≡ true
          by-cause (inl was) = was
          by-cause (inr (inl f)) = ⊎_elim (λ e. absurd (other e)) (λ e. absurd (there e)) (own i f)
          by-cause (inr (inr u)) = unlike unmarked u

      same-mark : is_loose new i ≡ is_loose old i
      same-mark = go (is_loose new i) (is_loose old i) refl refl
        where
          go : (a b : Bool) → is_loose new i ≡ a → is_loose old i ≡ b → is_loose new i ≡ is_loose old i
          go true b on was = on ∙ sym (was-marked on)
          go false false on was = on ∙ sym was
          go false true on was = unlike on (t.stays i was)

    pub fell-rests : LeavesRest old new
    fell-rests = record {
      recovered = λ i by is. (sym (stood i (none-fell i by is)) ∙ is, t.tables i (other i by is), same-mark i by is);
      others = inl (fewer (is_active old) (is_active new) j 9 (omega (arith, high)) active (ap (active_as j) (fallen j itself)) active-before);
    }

-- the devices of which a call failed
pub of-log : (j d : ℕ) → only j d ≡ true → (d ≡ j) ⊎ (d ≡ 0)
of-log j d is = inl (sym (eqb-true j d is))

pub of-disk : (j d : ℕ) → only 0 d ≡ true → (d ≡ j) ⊎ (d ≡ 0)
of-disk j d is = inr (sym (eqb-true 0 d is))

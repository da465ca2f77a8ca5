-- Slots for new records. For `room_for`.
use Rattle.std.proofs.Common.{◌≡◌, inl, inr, ⊎_elim, ℕ, ◌≤◌, List, [], ◌∷◌, length, refl, sym, ap, ◌∙◌, subst, arith}
use Rattle.std.specs.Prelude.{Option, None, Some, Result, Err, IfErr, unwrap_or}
use Rattle.std.proofs.lemmas.Bool.{cases_lt}
use Rattle.sd_base.specs.declared.ids.TxnId.{TxnId}
use Rattle.sd_base.specs.declared.place.Mode.TheVariants as modes
use Rattle.sd_base.specs.declared.refusal.Refusal.{Refusal}
use Rattle.sd_base.specs.declared.refusal.Refusal.TheVariants as R
use Rattle.sd_chain.specs.Pages.{value}
use Rattle.sd_chain.specs.Records.{home}
use Rattle.sd_page.specs.Page.{HasRoom, Page, PageFits, Slot, empty_page}
use Rattle.sd_pool.specs.Buffers.{image_at}
use Rattle.sd_update.specs.Changing.{image_for}
use Rattle.sd_state.specs.Parts.{Parts, pool_at}
use Rattle.sd_ops.specs.Copies.{LacksPage}
use Rattle.sd_ops.specs.Vacancies.{IsDead, IsLongFor, IsVacant, LacksPlace, NoneUsable}
use Rattle.sd_ops.proofs.Planning.{slot-fits}

-- a value that isn't too long for a capacity
pub not-long : (v : List ℕ) (asked : ℕ) → (IsLongFor v asked → ⊥) → length v ≤ asked
not-long v asked short = ⊎_elim (λ lt. absurd (short (inr (inr lt)))) (λ le. le) (cases_lt asked (length v))

-- nor is the capacity too big
pub asked-small : (v : List ℕ) (asked : ℕ) → (IsLongFor v asked → ⊥) → asked ≤ 256
asked-small v asked short = ⊎_elim (λ lt. absurd (short (inr (inl lt)))) (λ le. le) (cases_lt 256 asked)

-- behind the last slot there is no value
beyond-none : (slots : List Slot) → value slots (length slots) ≡ None
beyond-none [] = refl
beyond-none (x ∷ xs) = beyond-none xs

-- the copy that the pool has
pub copy-is : (t : TxnId) (p : ℕ) (c : Parts) (page : Page) → image_at (pool_at c (home t)) p ≡ Some page → page ≡ image_for t p c
copy-is t p c page is = sym (ap (λ (o : Option Page). unwrap_or o (empty_page p)) is)

module _ (page : Page) (t : TxnId) (p asked : ℕ) (c : Parts) (fits : PageFits page) where
  -- a dead slot takes a record
  pub dead-vacant : (slot own : ℕ) → IsDead page t p asked c slot own → IsVacant page t p asked c slot own
  dead-vacant slot own dead = record {
    chosen = (inl dead.usable, dead.lowest);
    place = let lt = dead.usable.place in omega (arith, lt);
    none = dead.usable.none;
    takes = λ v small. record {
      place = let lt = dead.usable.place in omega (arith, lt);
      found = refl;
      same = λ lt. dead.has;
      room = λ e. let lt = dead.usable.place in absurd (omega (arith, lt, e));
      within = let le = dead.usable.enough in let is = dead.has in omega (arith, le, is, small);
    };
    small = let all = slot-fits page.slots slot fits.slots dead.usable.place in let small = all.0 in let is = dead.has in
        omega (arith, small, is);
    asks = λ e. let lt = dead.usable.place in absurd (omega (arith, lt, e));
  }

  -- and so does the next one, where there is room, and no such dead one
  pub next-vacant : (slot : ℕ) → slot ≡ length page.slots → HasRoom page.slots asked → asked ≤ 256
      → NoneUsable page t p asked c (length page.slots) → IsVacant page t p asked c slot asked
  next-vacant slot is there small_enough none = record {
    chosen = (inr is, λ s lt. none s (omega (arith, lt, is)));
    place = omega (arith, is);
    none = ap (value page.slots) is ∙ beyond-none page.slots;
    takes = λ v small. record {
      place = omega (arith, is);
      found = refl;
      same = λ lt. absurd (omega (arith, lt, is));
      room = λ e. there;
      within = small;
    };
    small = small_enough;
    asks = λ e. refl;
  }

-- ---- refusals of `room_for`

-- a page that isn't there so
pub lacks-place : (t : TxnId) (p asked : ℕ) (c : Parts) (n : Refusal) → LacksPage modes.Excl (home t) p c n
    → LacksPlace t p asked c n
lacks-place t p asked c R.PageFull h = elim h [ ]
lacks-place t p asked c n h = h

abbrev the_err : (A : Type 0) → Refusal → Result A Refusal
the_err A n = Err n

pub err-if : {A : Type 0} (result : Result A Refusal) (e n : Refusal) (P : Refusal → Type 0) → result ≡ Err e → e ≡ n → P n
    → IfErr result P
err-if {A} result e n P is same h = subst (λ (r : Result A Refusal). IfErr r P) (sym (is ∙ ap (the_err A) same)) h

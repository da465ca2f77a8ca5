-- A giver's copy goes, and the asker may have the page alone then: for the goals of giving.rt.
use Rattle.std.proofs.Common.{◌≡◌, ℕ, Bool, true, false, cond, refl, sym, ap, ap₂, ◌∙◌, subst}
use Rattle.std.specs.Prelude.{None, not}
use Rattle.sd_base.specs.declared.place.Mode.{Mode}
use Rattle.sd_base.specs.declared.place.Mode.TheVariants as modes
use Rattle.sd_page.specs.Page.{Page}
use Rattle.sd_pagelock.specs.declared.queue.Ask.{Ask}
use Rattle.sd_pagelock.specs.Asks.{is_open_ask, open_asks}
use Rattle.sd_pagelock.specs.Directory.{DirectoryState, asks_at, entry_at, kept_rec, rec_lsn_at}
use Rattle.sd_pagelock.specs.Places.{PageEntry, changed, holds, holds_as, passes, is_lost}
use Rattle.sd_pagelock.specs.Rows.{dropped, fallen, given_excl, may_drop, may_raise, may_share, may_yield, raised}
use Rattle.sd_pagelock.proofs.Drops.{changed-fallen, two_moves}
use Rattle.sd_pagelock.proofs.Losses.{changed-raised}
use Rattle.sd_chain.specs.Records.{Each}
use Rattle.sd_world.specs.Pages.{given}
use Rattle.sd_world.proofs.Forms.{not_had}
use Rattle.sd_world.proofs.Gains.{asker_other, drops}
use Rattle.sd_state.specs.Locking.{IsSet}
use Rattle.sd_state.specs.Parts.{Parts, is_active}
use Rattle.sd_moves.specs.Passing.{may_set_out, set_out}
use Rattle.sd_moves.proofs.Passed.{oldest-each}
use Rattle.sd_transfer.specs.Giving.{MayGive}
use Rattle.sd_pagelock.proofs.Kept.{kept_rec-twice}
use Rattle.sd_pagelock.proofs.Raised.{open_asks-raised}

module _ (p j i : ℕ) (old mid : DirectoryState Page)
    (drop : IsSet p (fallen j (entry_at old p)) None old mid) where
  abbrev left : PageEntry
  left = fallen j (entry_at old p)

  -- others are left, and none has the page alone,
  pub dropped-so : may_raise i (entry_at mid p) ≡ false → IsSet p (dropped j i (entry_at old p)) None old mid
  dropped-so none = subst (λ (e : PageEntry). IsSet p e None old mid)
      (sym (two_moves j i (entry_at old p)
      ∙ ap (λ (b : Bool). cond b (raised i left) left) (ap (may_raise i) (sym drop.entry) ∙ none)))
      drop

  -- or the asker alone is left, and has it
  pub raised-so : (new : DirectoryState Page) → may_raise i (entry_at mid p) ≡ true
      → IsSet p (raised i (entry_at mid p)) None mid new → IsSet p (dropped j i (entry_at old p)) None old new
  raised-so new may raise =
      let alone : may_raise i left ≡ true = ap (may_raise i) (sym drop.entry) ∙ may in
      subst (λ (e : PageEntry). IsSet p e None old new)
      (sym (two_moves j i (entry_at old p) ∙ ap (λ (b : Bool). cond b (raised i left) left) alone))
      (record {
        entry = raise.entry ∙ ap (raised i) drop.entry;
        rec_lsn = raise.rec_lsn
            ∙ ap₂ (λ (e : PageEntry) (l : _). kept_rec (changed e) (changed (raised i e)) l None) drop.entry drop.rec_lsn
            ∙ kept_rec-twice (changed (entry_at old p)) (changed left) (changed (raised i left))
            (changed-fallen j (entry_at old p)) (changed-raised i left) (rec_lsn_at old p);
        asks = raise.asks ∙ ap₂ (λ (e : PageEntry) (l : _). open_asks (raised i e) l) drop.entry drop.asks
            ∙ open_asks-raised i left alone (asks_at old p);
        others = λ q ne. raise.others q ne ∙ drop.others q ne;
        other_rec_lsns = λ q ne. raise.other_rec_lsns q ne ∙ drop.other_rec_lsns q ne;
        other_asks = λ q ne. raise.other_asks q ne ∙ drop.other_asks q ne;
      })

-- ---- by which row the page goes

-- where it may set out
pub given-sent : (j to : ℕ) (mode : Mode) (e : PageEntry) → may_set_out mode to e ≡ true → set_out mode to e ≡ given j (to, mode) e
given-sent j to modes.Shared e may = refl
given-sent j to modes.Excl e may = sym (ap (λ (b : Bool). cond b (given_excl to e) (dropped j to e)) may)

-- and where it may not
pub given-dropped : (j to : ℕ) (mode : Mode) (e : PageEntry) → (mode ≡ modes.Shared → ⊥) → may_set_out mode to e ≡ false
    → dropped j to e ≡ given j (to, mode) e
given-dropped j to modes.Shared e alone may = absurd (alone refl)
given-dropped j to modes.Excl e alone may = sym (ap (λ (b : Bool). cond b (given_excl to e) (dropped j to e)) may)

-- a page at rest may set out to be shared for one who hasn't it
shares : (to : ℕ) (e : PageEntry) → holds e to ≡ false → passes e ≡ false → is_lost e ≡ false → (j : ℕ) → holds e j ≡ true
    → may_share to e ≡ true
shares to PageEntry.Free lacks still found j held = absurd (cc)
shares to PageEntry.Lost lacks still found j held = absurd (cc)
shares to (PageEntry.Moving k mode rest dirty) lacks still found j held = absurd (cc)
shares to (PageEntry.Shared set writer) lacks still found j held = ap not lacks
shares to (PageEntry.Excl holder dirty) lacks still found j held = ap not lacks

module _ (c : Parts) (j p to : ℕ) (mode : Mode)
    (asks : Each (λ (ask : Ask). (is_active c ask.by ≡ true) × (is_open_ask (entry_at c.directory p) ask ≡ true)) (asks_at c.directory p))
    (may : MayGive c j p to mode) (stays : may_set_out mode to (entry_at c.directory p) ≡ false) where
  abbrev here : PageEntry
  here = entry_at c.directory p

  lacks : holds_as mode here to ≡ false
  lacks = not_had here (record { by = to; mode = mode })
      (oldest-each (λ (ask : Ask). (is_active c ask.by ≡ true) × (is_open_ask here ask ≡ true)) j (asks_at c.directory p) to mode asks
      may.asked).1

  -- it is to be the asker's alone,
  pub stays-alone : mode ≡ modes.Shared → ⊥
  stays-alone is =
      let none : holds here to ≡ false = ap (λ (x : Mode). holds_as x here to) (sym is) ∙ lacks in
      let shared : may_share to here ≡ true = shares to here none may.still may.found j may.held in
      let clash : false ≡ true = sym stays ∙ ap (λ (x : Mode). may_set_out x to here) is ∙ shared in absurd (cc)

  -- and others have copies besides the giver
  pub stays-shared : may_drop j here ≡ true
  stays-shared = drops j to here (asker_other j (asks_at c.directory p) to mode may.asked) may.held may.still
      (excl mode stays-alone stays)
    where
      excl : (x : Mode) → (x ≡ modes.Shared → ⊥) → may_set_out x to here ≡ false → may_yield to here ≡ false
      excl modes.Shared alone none = absurd (alone refl)
      excl modes.Excl alone none = none

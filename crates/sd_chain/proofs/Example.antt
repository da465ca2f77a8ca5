-- An example, which shows that the premises of events can be met: blank devices are opened, instance 1 starts, reads page 5 alone,
-- changes it, forces its log and puts the page, or falls; and two states that coherence refuses.
use Rattle.std.proofs.Common.{◌≡◌, ◌≢◌, inl, inr, ⊎_elim, ℕ, Bool, true, false, cond, eqb, ◌&&◌, [], ◌∷◌, Option, None, Some, refl, sym, ap, ◌∙◌, arith, ne_eqb}
use Rattle.std.proofs.lemmas.Bool.{cases_eq}
use Rattle.sd_base.specs.declared.ids.TxnId.{TxnId}
use Rattle.sd_base.specs.declared.place.Mode.TheVariants as modes
use Rattle.sd_logrec.specs.View.{Rec}
use Rattle.sd_logrec.specs.View.Kind.{Update}
use Rattle.sd_page.specs.Page.{Page, empty_page}
use Rattle.sd_chain.specs.Pages.{redo}
use Rattle.sd_chain.specs.Storage.{Storage, all_of, chain, newest, Sound}
use Rattle.sd_chain.specs.Images.{Grows, MayChange, Settled, Tails, kept_at}
use Rattle.sd_chain.specs.Laws.{May, Opens, as_read}
use Rattle.sd_pagelock.specs.Places.{PageEntry, receives}
use Rattle.sd_pagelock.specs.Rows.{fallen}
use Rattle.sd_pagelock.proofs.Uses.{excl-found}
use Rattle.sd_chain.specs.World.{Base, Dir, newest_version, put_at}
use Rattle.sd_chain.specs.Coherent.{Coherent}
use Rattle.sd_chain.specs.Statuses.{opened_base, opened_dir, with_status}
use Rattle.sd_chain.specs.Named.{IsNamed, IsRedone, version_of}
use Rattle.sd_chain.specs.Forces.{failing}
use Rattle.sd_chain.specs.Falls.{fell}
use Rattle.sd_chain.specs.Puts.{with_device}
use Rattle.sd_chain.proofs.Statuses.{opening-coherent, status-keeps}
use Rattle.sd_chain.proofs.Calls.{own_fall-keeps}
use Rattle.sd_chain.proofs.Changes.{change-keeps, change-may_come}
use Rattle.sd_chain.proofs.Moves.{lock-keeps}
use Rattle.sd_chain.proofs.Named.{change-named, settle-named}
use Rattle.sd_chain.proofs.LogsSettled.{settle-keeps}
use Rattle.sd_chain.proofs.Cases.{by_seat, none_some, put_here, put_other}
use Rattle.sd_chain.proofs.OneUpdater.{each-newest}
use Rattle.sd_chain.proofs.DiskPuts.{forced-none, write-keeps}

-- ---- opened

abbrev blank : Storage
blank = record { logs = λ j. []; disk = empty_page }

is_sound : Sound blank
unfolding chain all_of
is_sound = record {
  disks = λ p s. omega arith;
  pages = λ p. tt;
  stacks = λ t o. record { places = tt; linked = λ p s. tt; alone = tt };
}

opens : Opens blank
opens = record {
  sound = is_sound;
  eight = λ j le. refl;
  numbered = λ j. tt;
  order = λ j t. record { order = tt; first = λ o. refl; undo = λ e. tt };
}

newest_blank : (p : ℕ) → newest blank p ≡ empty_page p
unfolding newest chain all_of
newest_blank p = refl

abbrev none : {A : Type 0} → ℕ → Option A
none p = None

abbrev nowhere : ℕ → Bool
nowhere p = false

abbrev first_base : Base (as_read blank)
first_base = opened_base blank none nowhere

abbrev first_dir : Dir
first_dir = opened_dir nowhere

opened-coherent : Coherent first_base first_dir
opened-coherent = opening-coherent blank none nowhere nowhere opens refl (record {
  marks = λ p. refl;
  free = λ p e. sym (newest_blank p);
  first = λ p l e. absurd (cc);
})

-- ---- instance 1 starts

abbrev one : ℕ → Bool
one i = eqb i 1

abbrev begun_base : Base (as_read blank)
begun_base = with_status first_base one one

begun-coherent : Coherent begun_base first_dir
begun-coherent = status-keeps (as_read blank) first_base first_dir one one opened-coherent (λ i a. absurd (cc)) (λ i lo u. inr refl)

-- ---- it reads page 5 alone

abbrev held_dir : Dir
held_dir = record {
  entry = put_at 5 (PageEntry.Excl 1 false) first_dir.entry;
  pool = λ i p. cond (eqb i 1 && eqb p 5) (Some (empty_page p)) None;
  moving = first_dir.moving;
}

held-coherent : Coherent begun_base held_dir
held-coherent = lock-keeps (as_read blank) begun_base first_dir held_dir 5 1 modes.Excl (record {
  coherent = begun-coherent;
  idle = refl;
  forced = λ j e. absurd (cc);
  others = record {
    entries = λ q ne. put_other 5 (PageEntry.Excl 1 false) first_dir.entry q ne;
    pools = λ i q ne. elsewhere i q ne;
    moving = λ q ne. refl;
  };
}) refl refl refl (record { here = refl; others = λ k ne. otherwise k ne }) refl
  where
    both : (b : Bool) (x : Page) → cond (b && false) (Some x) None ≡ None
    both true x = refl
    both false x = refl

    elsewhere : (i q : ℕ) → q ≢ 5 → held_dir.pool i q ≡ None
    elsewhere i q ne = ap (λ (b : Bool). cond (eqb i 1 && b) (Some (empty_page q)) None) (ne_eqb q 5 ne) ∙ both (eqb i 1) (empty_page q)

    otherwise : (k : ℕ) → k ≢ 1 → held_dir.pool k 5 ≡ None
    otherwise k ne = ap (λ (b : Bool). cond (b && true) (Some (empty_page 5)) None) (ne_eqb k 1 ne)

-- ---- it changes the page

abbrev txn : TxnId
txn = record { inst = 1; epoch = 1; seq = 1 }

abbrev change : Rec
change = record { kind = Update; lsn = 1; txn = txn; prev = 0; next = 0; page = 5; slot = 0; cap = 8; before = None; after = Some (7 ∷ []) }

abbrev changed_tails : Tails
changed_tails = record { base = λ j. []; tail = put_at 1 (change ∷ []) (λ j. []) }

abbrev changed_base : Base (as_read blank)
changed_base = record {
  tails = changed_tails;
  version = version_of changed_tails blank.disk;
  disk = blank.disk;
  rec_lsn = put_at 5 (Some 1) none;
  loose = begun_base.loose;
  loose_disk = false;
  active = one;
  up = one;
  due = None;
}

abbrev changed_dir : Dir
changed_dir = record {
  entry = put_at 5 (PageEntry.Excl 1 true) held_dir.entry;
  pool = λ i p. cond (eqb i 1 && eqb p 5) (Some (redo (empty_page p) change)) None;
  moving = held_dir.moving;
}

grows : Grows 1 change begun_base.tails changed_tails
grows = record {
  inside = omega arith;
  here = refl;
  others = λ j ne. put_other 1 (change ∷ []) (λ j. []) j ne;
  base = λ j. refl;
}

may_change : MayChange 1 begun_base.tails (newest_version begun_base) change
may_change = change-may_come (as_read blank) 1 1 (empty_page 5) change begun_base held_dir held-coherent refl
    (inl (refl, refl, refl)) refl refl
    (record { alive = tt; prev = refl; done = λ e. absurd (cc); undo = λ e. absurd (cc) }) (omega arith)
    (record { place = omega arith; found = refl; same = λ lt. absurd (omega (arith, lt)); room = λ e. omega arith; within = omega arith })
    (λ t ne o. refl)

named : IsRedone (as_read blank) 1 change changed_tails blank.disk begun_base.version
named = change-named (as_read blank) (as_read blank) 1 change begun_base held_dir changed_tails blank.disk held-coherent
    (record { grows = grows; own = λ it. refl }) may_change (λ p x m. m) (λ p. refl)

changed-coherent : Coherent changed_base changed_dir
changed-coherent = change-keeps (as_read blank) (as_read blank) 1 1 (empty_page 5) change begun_base changed_base held_dir changed_dir
    held-coherent (record {
      held = refl;
      copy = refl;
      rises = omega arith;
      acts = inl (refl, refl, refl);
      low = omega arith;
      grows = grows;
      redone = named.redone;
      safe = named.safe;
      reads = λ p. refl;
      entry = refl;
      redone_copy = record {
        here = refl;
        others = λ k ne. ap (λ (b : Bool). cond (b && true) (Some (redo (empty_page 5) change)) None) (ne_eqb k 1 ne)
            ∙ sym (ap (λ (b : Bool). cond (b && true) (Some (empty_page 5)) None) (ne_eqb k 1 ne));
      };
      moving = refl;
      others = record {
        entries = λ q ne. put_other 5 (PageEntry.Excl 1 true) held_dir.entry q ne;
        pools = λ i q ne. elsewhere i q ne;
        moving = λ q ne. refl;
      };
      rec_lsn = refl;
      other_rec = λ q ne. put_other 5 (Some 1) none q ne;
      stays = record {
        less = λ p x m. m;
        disk = λ p. refl;
        loose = λ j lo. refl;
        loose_disk = refl;
        active = λ i. refl;
        up = λ i. refl;
        due = refl;
      };
    })
  where
    both : (b : Bool) (x y : Page) → cond (b && false) (Some x) None ≡ cond (b && false) (Some y) None
    both true x y = refl
    both false x y = refl

    elsewhere : (i q : ℕ) → q ≢ 5 → changed_dir.pool i q ≡ held_dir.pool i q
    elsewhere i q ne = ap (λ (b : Bool). cond (eqb i 1 && b) (Some (redo (empty_page q) change)) None) (ne_eqb q 5 ne)
        ∙ both (eqb i 1) (redo (empty_page q) change) (empty_page q)
        ∙ sym (ap (λ (b : Bool). cond (eqb i 1 && b) (Some (empty_page q)) None) (ne_eqb q 5 ne))

-- ---- what coherence refuses then

-- the page sets out before its holder's log is forced
abbrev hasty_dir : Dir
hasty_dir = record {
  entry = put_at 5 (PageEntry.Moving 2 modes.Excl [] true) changed_dir.entry;
  pool = λ i p. None;
  moving = put_at 5 (Some (redo (empty_page 5) change)) none;
}

unforced_move : Coherent changed_base hasty_dir → ⊥
unforced_move c = ⊎_elim
    (λ quiet. let none_of : true ≡ false = quiet.0 in absurd (cc))
    (by_seat changed_base (hasty_dir.entry 5) 1 ⊥ (λ settled is. absurd (cc)) (λ loose lost. absurd (cc)) (λ a due is. none_some refl due))
    (c.unforced 1 5)

newest_changed : (newest_version changed_base 5).lsn ≡ 1
unfolding newest chain all_of
newest_changed = refl

-- another pool has the page as it was before the change
stale_copy : (d : Dir) → Coherent changed_base d → d.pool 2 5 ≡ Some (empty_page 5) → ⊥
stale_copy d c stale =
    let old : 0 ≡ (newest_version changed_base 5).lsn = ap (λ (x : Page). x.lsn)
    ((each-newest (as_read blank) changed_base d c 5 2).1 (empty_page 5) stale).1 in
    let wrong : 0 ≡ 1 = old ∙ newest_changed in
    absurd (omega (arith, wrong))

-- ---- its log is forced

abbrev forced_tails : Tails
forced_tails = record { base = changed_tails.tail; tail = λ j. [] }

settled : Settled 1 true changed_tails forced_tails
settled = record {
  inside = omega arith;
  base = refl;
  tail = refl;
  other_bases = λ j ne. put_other 1 (change ∷ []) (λ j. []) j ne;
  other_tails = λ j ne. sym (put_other 1 (change ∷ []) (λ j. []) j ne);
}

abbrev forced_base : Base (as_read blank)
forced_base = record {
  tails = forced_tails;
  version = version_of forced_tails blank.disk;
  disk = blank.disk;
  rec_lsn = changed_base.rec_lsn;
  loose = begun_base.loose;
  loose_disk = false;
  active = one;
  up = one;
  due = None;
}

forced-coherent : Coherent forced_base changed_dir
forced-coherent = settle-keeps (as_read blank) (as_read blank) 1 true changed_base forced_base changed_dir changed-coherent (record {
  tails = settled;
  less = λ p x m. m;
  version = safe.same;
  safe = safe.safe;
  reads = λ p. refl;
  disk = λ p. refl;
  rec_lsn = λ p. refl;
  settled = refl;
  other_loose = λ j lo ne. refl;
  loose_disk = refl;
  active = λ i. refl;
  up = λ i. refl;
  due = inl refl;
}) (inl refl)
  where
    safe : IsNamed (as_read blank) forced_tails blank.disk (λ keeps. changed_base.version (kept_at 1 true keeps))
    safe = settle-named (as_read blank) (as_read blank) 1 true changed_base changed_dir forced_tails blank.disk changed-coherent
        settled (λ p x m. m) (λ p. refl)

-- ---- and the page is put

abbrev put_disk : ℕ → Page
put_disk = put_at 5 (newest_version forced_base 5) blank.disk

abbrev put_may : May
put_may p x = x ≡ put_disk p

abbrev put_dir : Dir
put_dir = record {
  entry = put_at 5 (PageEntry.Excl 1 false) changed_dir.entry;
  pool = changed_dir.pool;
  moving = changed_dir.moving;
}

put-coherent : Coherent (with_device put_may forced_base put_disk false (put_at 5 None changed_base.rec_lsn)) put_dir
put-coherent = write-keeps (as_read blank) put_may 5 forced_base changed_dir put_dir put_disk false (put_at 5 None changed_base.rec_lsn)
    forced-coherent
    (forced-none (as_read blank) forced_base changed_dir 5 forced-coherent refl (excl-found 1 true) (λ j e settled. refl))
    (record {
      leaves = λ q x m. ⊎_elim
          (λ e. inr (e, m ∙ put_here 5 (newest_version forced_base 5) blank.disk q e))
          (λ ne. inl (m ∙ put_other 5 (newest_version forced_base 5) blank.disk q ne))
          (cases_eq q 5);
      left = record { reads = λ q. refl; still = λ e q x m. m };
    })
    (λ x m. m)
    (record {
      there = refl;
      here = refl;
      others = λ q ne. put_other 5 (PageEntry.Excl 1 false) changed_dir.entry q ne;
      no_rec = refl;
      other_rec = λ q ne. put_other 5 None changed_base.rec_lsn q ne;
      pool = λ k q. refl;
      moving = λ q. refl;
    })

-- ---- or the force fails, and it falls: the page is lost

abbrev fallen_dir : Dir
fallen_dir = record {
  entry = λ p. fallen 1 (changed_dir.entry p);
  pool = λ i p. None;
  moving = λ p. cond (receives (changed_dir.entry p) 1) None None;
}

page_5_is_lost : fallen_dir.entry 5 ≡ PageEntry.Lost
page_5_is_lost = refl

fallen-coherent : Coherent (fell 1 (failing 1 1 true changed_base)) fallen_dir
fallen-coherent = own_fall-keeps (as_read blank) 1 changed_base changed_dir fallen_dir changed-coherent refl refl (record {
  entry = λ p. refl;
  pool = λ p. refl;
  other_pools = λ k p ne. sym (ap (λ (b : Bool). cond (b && eqb p 5) (Some (redo (empty_page p) change)) None) (ne_eqb k 1 ne));
  moving = λ p. refl;
})

-- A run goes on by one call of the hall: one that is noted, and one that found no memory. It serves whoever drives the hall.
use Rattle.sd_page.specs.Page.{Page}
use Rattle.std.proofs.Common.{◌≡◌, ◌⊎◌, true, false, ⊎_elim, ℕ, ◌+◌, ◌≤◌, List, [], ◌∷◌, ◌++◌, refl, sym, ◌∙◌, subst, ap, arith, inl, inr}
use Rattle.std.specs.Prelude.{None, min}
use Rattle.sd_base.specs.Streams.{Rises}
use Rattle.sd_base.specs.declared.place.Status.TheVariants as S
use Rattle.sd_base.specs.declared.trouble.Pick.{Pick}
use Rattle.sd_chain.specs.Bytes.{disk_page}
use Rattle.sd_pagelock.specs.Directory.{entry_at}
use Rattle.sd_pagelock.specs.Places.{PageEntry, changed, is_lost}
use Rattle.sd_chain.specs.Logs.{Outcomes}
use Rattle.sd_state.specs.Parts.{Parts}
use Rattle.sd_fits.specs.Fits.{Fits}
use Rattle.sd_base.specs.declared.refusal.Refusal.TheVariants as R
use Rattle.sd_rig.specs.Devices.{DeviceImages, Leaves, LeavesOnly}
use Rattle.sd_rig.specs.Spans.{elapses-then}
use Rattle.sd_model.specs.declared.event.Entry.{Entry}
use Rattle.sd_model.specs.declared.event.Event.{Event}
use Rattle.sd_model.specs.declared.event.Event.TheVariants.{FailAll, Reopen}
use Rattle.sd_model.specs.declared.event.Reply.{Reply}
use Rattle.sd_model.specs.declared.event.Reply.TheVariants.{Did, Refused}
use Rattle.sd_hall.specs.Closed.{Lasts}
use Rattle.sd_hall.specs.Found.{IsFound}
use Rattle.sd_world.specs.Leading.{Leads}
use Rattle.sd_world.specs.Serving.{Core, FaultsAre, FewFaults, KeepsEarlier, Passes, Telling}
use Rattle.sd_state.specs.Complexes.{parts}
use Rattle.sd_model.specs.State.{State}
use Rattle.sd_fits.specs.Serving.{stands_for}
use Rattle.sd_fits.proofs.Served.{fits-left}
use Rattle.sd_fits.specs.Bodies.{ServingHall, fits_body, rig_of}
use Rattle.sd_fits.specs.declared.body.Body.{Body}
use Rattle.sd_drive.specs.Driving.{Advances, Drives, World}
use Rattle.sd_drive.specs.Running.{AllStand, Breaks, Goes, Led, Ran, Stays, RunsOn, ServesEntry, Start}

-- ---- runs put together

pub drives-join : (es fs : List Entry) (old mid new : World) → Drives old es mid → Drives mid fs new → Drives old (es ++ fs) new
drives-join [] fs old mid new h k = subst (λ (w : World). Drives w fs new) (sym h) k
drives-join (e ∷ es) fs old mid new h k = (h.0, h.1, drives-join es fs h.0 mid new h.2 k)

pub drives-grow : (es : List Entry) (e : Entry) (old mid new : World) → Drives old es mid → Advances mid e new → Drives old (es ++ e ∷ []) new
drives-grow es e old mid new h a = drives-join es (e ∷ []) old mid new h (new, a, refl)

-- a count that stands at its end may not rise, and never falls below it
few-grow : (e : Event) (top a b : ℕ) → FewFaults e a b → min a top ≤ b
few-grow (FailAll pick) top a b h = omega (arith, h)
few-grow e top a b h = omega (arith, h)

rise-grows : (top a b : ℕ) → min (a + 1) top ≤ b → min a top ≤ b
rise-grows top a b h = omega (arith, h)

pub fault-grows : (e : Event) (r : Reply) (a b : ℕ) → FaultsAre e r a b → min a 18446744073709551615 ≤ b
fault-grows e (Refused R.Failed) a b h = rise-grows 18446744073709551615 a b h
fault-grows e (Refused R.CutCommit) a b h = rise-grows 18446744073709551615 a b h
fault-grows e r a b h = few-grow e 18446744073709551615 a b h

pub rises-then : (top a b c : ℕ) → min a top ≤ b → min (b + 1) top ≤ c → min (a + 1) top ≤ c
rises-then top a b c h k = omega (arith, h, k)

-- ---- devices that went on

module _ {G : Type 0} (tell : Telling G) where
  -- devices that stood for the same state, and then passed to another one's
  rests-pass : (a b c : G) (m m' : State) → KeepsEarlier tell c → Passes tell stands_for a b m m → Passes tell stands_for b c m m'
      → Passes tell stands_for a c m m'
  rests-pass a b c m m' earlier p q = record {
    time = elapses-then (tell.moment a) (tell.moment b) (tell.moment c) (tell.since a) (tell.since b) (tell.since c) earlier p.time q.time;
    span = record {
      each = λ img s. ⊎_elim (λ before. inl (⊎_elim (λ x. x) (λ x. x) (p.span.each img before))) (λ behind. q.span.each img behind)
          (q.time.splits (tell.moment a) img p.time.later s);
    };
  }

  goes-rest : (es : List Entry) (w w' : World) (rig a b : G) → KeepsEarlier tell b → Goes tell w rig es w' a → Stays tell a b w'
      → Goes tell w rig es w' b
  goes-rest [] w w' rig a b earlier g r = (
    g.0,
    inr (⊎_elim
        (λ same. subst (λ (d : G). Stays tell d b w) same (subst (λ (v : World). Stays tell a b v) (sym g.0) r))
        (λ before. let here : Stays tell a b w = subst (λ (v : World). Stays tell a b v) (sym g.0) r in record {
          passes = rests-pass rig a b w.core.scene.state w.core.scene.state earlier before.passes here.passes;
          quiet = here.quiet ∙ before.quiet;
        })
        g.1),
  )
  goes-rest (e ∷ es) w w' rig a b earlier g r = (g.0, g.1, g.2, g.3, goes-rest es g.0 w' g.1 a b earlier g.4 r)

  goes-grow : (es : List Entry) (e : Entry) (w w' next : World) (rig a b : G) → KeepsEarlier tell b → Goes tell w rig es w' a
      → Advances w' e next → ServesEntry tell e a b w' next → Goes tell w rig (es ++ e ∷ []) next b
  goes-grow [] e w w' next rig a b earlier g adv s =
      let on : Advances w e next = subst (λ (v : World). Advances v e next) (sym g.0) adv in
      let here : ServesEntry tell e a b w next = subst (λ (v : World). ServesEntry tell e a b v next) (sym g.0) s in (
        next,
        b,
        on,
        ⊎_elim
            (λ same. subst (λ (d : G). ServesEntry tell e d b w next) same here)
            (λ before. record {
              passes = rests-pass rig a b w.core.scene.state next.core.scene.state earlier before.passes here.passes;
              told = subst (λ (n : ℕ). FaultsAre e.event e.reply n (tell.faults b)) before.quiet here.told;
              left = here.left;
              clean = here.clean;
              found = here.found;
              lasts = subst (λ (n : ℕ). (pick : Pick) → e.event ≡ FailAll pick → Rises n (tell.faults b)
                  ⊎ ((d : ℕ) → d ≤ 8 → LeavesOnly (tell.seen b d) (tell.leaves b d))) before.quiet here.lasts;
            })
            g.1,
        (refl, inl refl),
      )
  goes-grow (x ∷ es) e w w' next rig a b earlier g adv s =
      (g.0, g.1, g.2, g.3, goes-grow es e g.0 w' next g.1 a b earlier g.4 adv s)

-- a complex that fits a world, open or closed: whatever a crash may leave of its devices stands for its state
pub body-stands : {G : Type 0} (tell : Telling G) (body : Body G) (core : Core) → fits_body tell.seen tell.leaves body core
    → (img : DeviceImages) → Leaves (tell.leaves (rig_of body)) img → stands_for img core.scene.state
body-stands tell (Body.Open c) core f img left = fits-left (tell.seen c.rig) (tell.leaves c.rig) (parts c) core f img left
body-stands tell (Body.Closed rig shape) core f img left = f.fits.stands img left

-- what is clean isn't lost
clean-there : (e : PageEntry) → changed e ≡ false → is_lost e ≡ false
clean-there PageEntry.Free clean = refl
clean-there (PageEntry.Shared set writer) clean = refl
clean-there (PageEntry.Excl holder dirty) clean = refl
clean-there (PageEntry.Moving to mode rest dirty) clean = refl
clean-there PageEntry.Lost clean = absurd (cc)

-- a clean page is on the data device
clean-left : (seen : DeviceImages) (leaves : Outcomes) (c : Parts) (w : Core) → Fits seen leaves c w → (p : ℕ)
    → changed (w.pages.entry p) ≡ false → (bytes : List ℕ) → leaves 0 bytes → (disk_page bytes p).lsn ≡ w.pages.number p
clean-left seen leaves c w f p clean bytes left =
    let half = (f.good.half (λ j. false)).coherent in
    let here : changed (entry_at c.directory p) ≡ false = subst (λ (e : PageEntry). changed e ≡ false) (f.pages.entry p) clean in
    ap (λ (x : Page). x.lsn) (half.clean p here (disk_page bytes p) (bytes, (left, tt), refl))
    ∙ sym (f.pages.number p (clean-there (w.pages.entry p) clean))

-- the same of a body that fits, where its complex is open
body-clean : {G : Type 0} (tell : Telling G) (body : Body G) (core : Core) → fits_body tell.seen tell.leaves body core
    → ((core.scene.state.inst 1).status ≡ S.Closed → ⊥) → (p : ℕ) → changed (core.pages.entry p) ≡ false
    → (bytes : List ℕ) → tell.leaves (rig_of body) 0 bytes → (disk_page bytes p).lsn ≡ core.pages.number p
body-clean tell (Body.Open c) core f open_ p clean bytes left =
    clean-left (tell.seen c.rig) (tell.leaves c.rig) (parts c) core f p clean bytes left
body-clean tell (Body.Closed rig shape) core f open_ p clean bytes left = absurd (open_ (f.fits.closed 1))

-- ---- one call

module _ {G : Type 0} (tell : Telling G) (start : Start G) (entries : List Entry) (w : World) where
  abbrev old : G
  old = start.rig

  -- devices that pass from one world's state to the next one's
  pub passes-on : (e : Entry) (a b : G) (w' : World) → KeepsEarlier tell b → RunsOn tell start a entries w
      → Advances w e w' → Passes tell stands_for a b w.core.scene.state w'.core.scene.state
      → FaultsAre e.event e.reply (tell.faults a) (tell.faults b)
      → ((img : DeviceImages) → Leaves (tell.leaves b) img → stands_for img w'.core.scene.state)
      → (((w'.core.scene.state.inst 1).status ≡ S.Closed → ⊥) → (p : ℕ) → changed (w'.core.pages.entry p) ≡ false
      → (bytes : List ℕ) → tell.leaves b 0 bytes → (disk_page bytes p).lsn ≡ w'.core.pages.number p)
      → (e.event ≡ Reopen → e.reply ≡ Did → IsFound (tell.seen b) w'.core)
      → ((pick : Pick) → e.event ≡ FailAll pick → Lasts tell a b) → RunsOn tell start b (entries ++ e ∷ []) w'
  passes-on e a b w' earlier r adv p f left clean found lasts = record {
    time = elapses-then (tell.moment old) (tell.moment a) (tell.moment b) (tell.since old) (tell.since a) (tell.since b) earlier r.time p.time;
    stood = r.stood;
    goes = goes-grow tell entries e start.world w w' old a b earlier r.goes adv
        (record { passes = p; told = f; left = left; clean = clean; found = found; lasts = lasts });
  }

  -- The call of the entry was noted, and led to this core, where the entry is the one that is due.
  pub ran-noted : (e : Entry) (c c' : Body G) (w' : World) → KeepsEarlier tell (rig_of c') → Ran tell start c entries w → Advances w e w'
      → fits_body tell.seen tell.leaves c' w'.core
      → Passes tell stands_for (rig_of c) (rig_of c') w.core.scene.state w'.core.scene.state
      → FaultsAre e.event e.reply (tell.faults (rig_of c)) (tell.faults (rig_of c'))
      → (e.event ≡ Reopen → e.reply ≡ Did → IsFound (tell.seen (rig_of c')) w'.core)
      → ((pick : Pick) → e.event ≡ FailAll pick → Lasts tell (rig_of c) (rig_of c')) → Ran tell start c' (entries ++ e ∷ []) w'
  ran-noted e c c' w' earlier r adv fits passes faults found lasts = record {
    drives = drives-grow entries e start.world w w' r.drives adv;
    fits = fits;
    runs = passes-on e (rig_of c) (rig_of c') w' earlier r.runs adv passes faults (body-stands tell c' w'.core fits)
        (body-clean tell c' w'.core fits) found lasts;
  }

  -- The call found no memory.
  pub ran-spared : (e : Event) (c c' : Body G) → KeepsEarlier tell (rig_of c') → Ran tell start c entries w
      → ServingHall tell e None c c' → Ran tell start c' entries w
  ran-spared e c c' earlier r s =
      let spares = s.0 w.core r.fits in
      let a : G = rig_of c in
      let b : G = rig_of c' in record {
        drives = r.drives;
        fits = spares.fits_still;
        runs = record {
          time = elapses-then (tell.moment old) (tell.moment a) (tell.moment b) (tell.since old) (tell.since a) (tell.since b) earlier
              r.runs.time spares.passes.time;
          stood = r.runs.stood;
          goes = goes-rest tell entries start.world w old a b earlier r.runs.goes (record { passes = spares.passes; quiet = s.1 });
        };
      }

-- ---- the start

-- Before the first call the devices are as they were, and each image that a crash may leave stands for the start.
pub ran-start : {G : Type 0} (tell : Telling G) (start : Start G) (body : Body G) → start.rig ≡ rig_of body
    → ((img : DeviceImages) → tell.since (rig_of body) (tell.moment (rig_of body)) img → Leaves (tell.leaves (rig_of body)) img)
    → fits_body tell.seen tell.leaves body start.world.core → Ran tell start body [] start.world
ran-start tell start body same now fits = record {
  drives = refl;
  fits = fits;
  runs = subst (λ d. RunsOn tell (record start { rig = d }) (rig_of body) [] start.world) (sym same) (record {
    time = record { later = omega arith; splits = λ t img le s. inl s; keeps = λ t img le s. s };
    stood = λ img s. body-stands tell body start.world.core fits img (now img s);
    goes = (refl, inl refl);
  });
}

-- ---- the end

-- what a run leaves once its hall is closed
module _ {G : Type 0} (tell : Telling G) (start : Start G) (entries : List Entry) (w : World) where
  -- a complex that fits a world leaves devices that stand for it
  pub fits-stand : (body : Body G) (core : Core)
      → ((dev : ℕ) → dev ≤ 8 → tell.leaves (rig_of body) dev (tell.seen (rig_of body) dev))
      → fits_body tell.seen tell.leaves body core → AllStand tell (rig_of body) core.scene.state
  fits-stand body core seen f = record {
    reads = body-stands tell body core f (tell.seen (rig_of body)) seen;
    left = body-stands tell body core f;
  }

  pub ran-led : (body : Body G) → ((dev : ℕ) → dev ≤ 8 → tell.leaves (rig_of body) dev (tell.seen (rig_of body) dev))
      → Ran tell start body entries w → Led tell start (rig_of body) entries w
  ran-led body seen r = record { drives = r.drives; runs = r.runs; stand = fits-stand body w.core seen r.fits }

  -- A device that failed ends the opening.
  pub ran-breaks : (body : Body G) → ((dev : ℕ) → dev ≤ 8 → tell.leaves (rig_of body) dev (tell.seen (rig_of body) dev))
      → Ran tell start body entries w → w.told.failed ≡ true → Rises (tell.faults start.rig) (tell.faults (rig_of body))
      → Breaks tell start (rig_of body)
  ran-breaks body seen r failed rises =
      record { entries = entries; last = w; led = ran-led body seen r; failed = failed; faults = rises }

-- ---- what is told beside the cores

pub drives-leads : (es : List Entry) (from to : World) → Drives from es to → Leads from.core es to.core
drives-leads [] from to h = ap (λ (w : World). w.core) h
drives-leads (e ∷ es) from to h = (h.0.core, h.1.turns, drives-leads es h.0 to h.2)

-- Runs of cores are put together, and are runs of the serial table. It serves the goals of `runs` and `forms` in laws.rt.
use Rattle.std.proofs.Common.{◌≡◌, ◌≢◌, true, List, [], ◌∷◌, ◌++◌, refl, sym, ap, subst}
use Rattle.sd_model.specs.declared.event.Entry.{Entry}
use Rattle.sd_model.specs.declared.event.Event.{Event}
use Rattle.sd_model.specs.declared.event.Reply.{Reply}
use Rattle.sd_model.specs.Run.{Run}
use Rattle.sd_world.specs.Pages.{AreFormed}
use Rattle.sd_world.specs.Bounds.{is_wait}
use Rattle.sd_world.specs.Serving.{Core, Turns}
use Rattle.sd_world.specs.Leading.{Leads, LeadsOn, ExactRun, TriesBy}
use Rattle.sd_world.proofs.Keeping.{moves-form}

pub leads-join : (es fs : List Entry) (old mid new : Core) → Leads old es mid → Leads mid fs new → Leads old (es ++ fs) new
leads-join [] fs old mid new h k = subst (λ (w : Core). Leads w fs new) (sym h) k
leads-join (e ∷ es) fs old mid new h k = (h.0, h.1, leads-join es fs h.0 mid new h.2 k)

pub leads-grow : (es : List Entry) (e : Entry) (old mid new : Core) → Leads old es mid → Turns mid e.event e.reply new → Leads old (es ++ e ∷ []) new
leads-grow es e old mid new h t = leads-join es (e ∷ []) old mid new h (new, t, refl)

pub leads-run : (es : List Entry) (old new : Core) → Leads old es new → Run old.scene.state es new.scene.state
leads-run [] old new h = ap (λ (w : Core). w.scene.state) h
leads-run (e ∷ es) old new h = (h.0.scene.state, h.1.plays.step, leads-run es h.0 new h.2)

pub leads-exactly : (es : List Entry) (old new : Core) → Leads old es new → ExactRun old.scene es new.scene
leads-exactly [] old new h = ap (λ (w : Core). w.scene) h
leads-exactly (e ∷ es) old new h = (h.1.wanted, h.0.scene, h.1.plays, h.1.exact, leads-exactly es h.0 new h.2)

pub run-form : (es : List Entry) (old new : Core) → Leads old es new → AreFormed old.pages → AreFormed new.pages
run-form [] old new h f = subst (λ (w : Core). AreFormed w.pages) h f
run-form (e ∷ es) old new h f = run-form es h.0 new h.2 (moves-form old.scene.state old.pages e.event e.reply h.0.scene.state h.0.pages h.1.moves f)

-- ---- with tries of which nothing is noted

pub leads-with_tries : (es : List Entry) (old new : Core) → Leads old es new → LeadsOn old es new
leads-with_tries [] old new h = h
leads-with_tries (e ∷ es) old new h = (h.0, h.0, h.1, ([], refl), leads-with_tries es h.0 new h.2)

pub leads_on-join : (es fs : List Entry) (old mid new : Core) → LeadsOn old es mid → LeadsOn mid fs new → LeadsOn old (es ++ fs) new
leads_on-join [] fs old mid new h k = subst (λ (w : Core). LeadsOn w fs new) (sym h) k
leads_on-join (e ∷ es) fs old mid new h k = (h.0, h.1, h.2, h.3, leads_on-join es fs h.1 mid new h.4 k)

pub leads_on-grow : (es : List Entry) (e : Entry) (old mid new : Core) → LeadsOn old es mid → Turns mid e.event e.reply new → LeadsOn old (es ++ e ∷ []) new
leads_on-grow es e old mid new h t = leads_on-join es (e ∷ []) old mid new h (new, new, t, ([], refl), refl)

tries-push : (ts : List (Event × Reply)) (e : Event) (r : Reply) (old mid new : Core) → TriesBy old ts mid → Turns mid e r new → is_wait r ≡ true
    → TriesBy old (ts ++ (e, r) ∷ []) new
tries-push [] e r old mid new h t waits = (new, subst (λ (w : Core). Turns w e r new) (sym h) t, waits, refl)
tries-push (x ∷ ts) e r old mid new h t waits = (h.0, h.1, h.2, tries-push ts e r h.0 mid new h.3 t waits)

pub try-leads_on : (es : List Entry) (e : Event) (r : Reply) (old mid new : Core) → es ≢ [] → LeadsOn old es mid → Turns mid e r new
    → is_wait r ≡ true → LeadsOn old es new
try-leads_on [] e r old mid new some h t waits = absurd (some refl)
try-leads_on (x ∷ []) e r old mid new some h t waits =
    (h.0, new, h.2, (h.3.0 ++ (e, r) ∷ [], tries-push h.3.0 e r h.0 mid new (subst (λ (w : Core). TriesBy h.0 h.3.0 w) h.4 h.3.1) t waits), refl)
try-leads_on (x ∷ y ∷ es) e r old mid new some h t waits =
    (h.0, h.1, h.2, h.3, try-leads_on (y ∷ es) e r h.1 mid new (λ none. absurd (cc)) h.4 t waits)

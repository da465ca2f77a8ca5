use Rattle.std.proofs.Common.{◌∙◌, ap, eq-eqb, refl, subst, sym}
use Rattle.sd_base.specs.declared.place.Place.{Place}
use Rattle.sd_pagelock.specs.Places.{Formed, PageEntry, holds, passes, seen}
use Rattle.sd_state.specs.Complexes.{parts}
use Rattle.sd_state.specs.Laws.{newest_of}
use Rattle.sd_world.specs.Pages.{number_shown}
use Rattle.sd_transfer.proofs.Shown.{first-has, first-there}
use Rattle.sd_transfer.proofs.showing.newest_lsn.Goals as goal

pub pooled_lsn-requires-clause-good : goal.pooled_lsn-requires-clause-good
pooled_lsn-requires-clause-good g c = c.requires.good

pub pooled_lsn-requires-in-Excl-clause-good : goal.pooled_lsn-requires-in-Excl-clause-good
pooled_lsn-requires-in-Excl-clause-good g c = c.requires.good

pub moving_lsn-requires-clause-good : goal.moving_lsn-requires-clause-good
moving_lsn-requires-clause-good g c = c.requires.good

pub moving_lsn-requires-clause-moves : goal.moving_lsn-requires-clause-moves
moving_lsn-requires-clause-moves g c = ap passes (sym c.requires.there ∙ ap seen c.in-Moving.is)

pub returns-in-Excl : goal.returns-in-Excl
returns-in-Excl g c =
    let old = c.args.c.now in
    c.pooled_lsn-in-Excl.ensures
    ∙ sym (ap (λ (x : Place). number_shown (seen x) (newest_of (g.G.Rig.seen old.rig) (g.G.Rig.leaves old.rig) (parts old) c.args.p).lsn)
    c.in-Excl.is)

pub returns-in-Moving : goal.returns-in-Moving
returns-in-Moving g c =
    let old = c.args.c.now in
    c.moving_lsn.ensures
    ∙ sym (ap (λ (x : Place). number_shown (seen x) (newest_of (g.G.Rig.seen old.rig) (g.G.Rig.leaves old.rig) (parts old) c.args.p).lsn)
    c.in-Moving.is)

pub unwrap-requires : goal.unwrap-requires
unwrap-requires g c = first-there _ c.first.result c.first.ensures
    (subst Formed (sym c.requires.there ∙ ap seen c.in-Shared.is) (c.keeps.ensures.formed c.args.p)).0

pub pooled_lsn-requires-clause-held : goal.pooled_lsn-requires-clause-held
pooled_lsn-requires-clause-held g c = ap (λ (e : PageEntry). holds e c.unwrap.result) (sym c.requires.there ∙ ap seen c.in-Shared.is)
    ∙ first-has _ c.unwrap.result (sym c.first.ensures ∙ c.unwrap.ensures)

pub pooled_lsn-requires-in-Excl-clause-held : goal.pooled_lsn-requires-in-Excl-clause-held
pooled_lsn-requires-in-Excl-clause-held g c = ap (λ (e : PageEntry). holds e c.in-Excl.holder)
    (sym c.requires.there ∙ ap seen c.in-Excl.is) ∙ eq-eqb c.in-Excl.holder c.in-Excl.holder refl

use Rattle.std.proofs.Common.{ℤ, ℕ, List, of_z, to_z, rules, w64, ◌≡◌, refl, subst}
use Rattle.std.proofs.lemmas.Int.{to_z-of_z}
use Rattle.sd_model.specs.declared.event.Event.{Event}
use Rattle.sd_model.specs.declared.event.Event.TheVariants as event
use Rattle.sd_model.specs.declared.event.Event.TheVariants.{Add, Insert, Write}
use Rattle.sd_world.specs.Serving.{Telling, did, placed_at, telling}
use Rattle.sd_fits.specs.Serving.{Serving}
use Rattle.sd_recover.specs.Closing.{NeitherClosesNorOpens}
use Rattle.sd_hall.specs.Served.{IsHelping, IsOfPlace, IsPlain, IsServed}
use Rattle.sd_hall.proofs.Answering.{served-as}
use Rattle.sd_hall.proofs.dispatch.serve_plain.Goals as goal

pub serve_place-requires-clause-place : goal.serve_place-requires-clause-place
serve_place-requires-clause-place g c = place c.args.e.now c.requires.served c.requires.within c.requires.plain refl
  where
    place : (e : Event) → IsServed e → NeitherClosesNorOpens e → IsPlain e → c.args.e.now ≡ e → IsOfPlace e
    place (event.Begin i) served within plain is = absurd (c.in_default.not-Begin i is)
    place (event.Read t r) served within plain is = absurd (c.in_default.not-Read t r is)
    place (event.Write t r v) served within plain is = absurd (c.in_default.not-Write t r v is)
    place (event.Add t r by) served within plain is = absurd (c.in_default.not-Add t r by is)
    place (event.Insert t p v n) served within plain is = absurd (c.in_default.not-Insert t p v n is)
    place (event.Delete t r) served within plain is = absurd (c.in_default.not-Delete t r is)
    place (event.Save t k) served within plain is = absurd (c.in_default.not-Save t k is)
    place (event.Back t k) served within plain is = absurd (c.in_default.not-Back t k is)
    place (event.Undo t) served within plain is = plain
    place (event.Commit t) served within plain is = plain
    place (event.List i p) served within plain is = absurd (c.in_default.not-List i p is)
    place (event.Ask i p mode) served within plain is = tt
    place (event.Give i p) served within plain is = tt
    place (event.Take i p) served within plain is = tt
    place (event.Evict i p) served within plain is = tt
    place (event.Flush i p) served within plain is = tt
    place (event.Force i) served within plain is = tt
    place (event.CheckBegin i) served within plain is = tt
    place (event.CheckEnd i) served within plain is = tt
    place (event.Fail i) served within plain is = plain
    place (event.Join i) served within plain is = tt
    place (event.Arm trouble) served within plain is = tt
    place (event.Show p) served within plain is = tt
    place (event.RecoverBegin i by) served within plain is = tt
    place (event.RecoverStep i) served within plain is = plain
    place (event.FailAll pick) served within plain is = within
    place event.Reopen served within plain is = within

pub returns-in-Begin-clause-served : goal.returns-in-Begin-clause-served
returns-in-Begin-clause-served g c =
    let tell : Telling _ = telling g.G.Rig.seen g.G.Rig.leaves g.G.Rig.moment g.G.Rig.since g.G.Rig.faults in
    served-as tell c.args.c.now c.begin.new.c _ _ _ _ c.in-Begin.is c.as_began.ensures c.begin.ensures.served

pub returns-in-Read-clause-served : goal.returns-in-Read-clause-served
returns-in-Read-clause-served g c =
    let tell : Telling _ = telling g.G.Rig.seen g.G.Rig.leaves g.G.Rig.moment g.G.Rig.since g.G.Rig.faults in
    served-as tell c.args.c.now c.read.new.c _ _ _ _ c.in-Read.is c.as_found.ensures c.read.ensures.served

pub returns-in-Write-clause-served : goal.returns-in-Write-clause-served
returns-in-Write-clause-served g c =
    let tell : Telling _ = telling g.G.Rig.seen g.G.Rig.leaves g.G.Rig.moment g.G.Rig.since g.G.Rig.faults in
    let written = subst (λ (v : List ℕ). Serving tell (Write c.in-Write.txn c.in-Write.rid v) (did c.write.result) c.args.c.now c.write.new.c)
    c.items.ensures c.write.ensures.served in
    served-as tell c.args.c.now c.write.new.c _ _ _ _ c.in-Write.is c.as_did.ensures written

pub returns-in-Add-clause-served : goal.returns-in-Add-clause-served
returns-in-Add-clause-served g c =
    let tell : Telling _ = telling g.G.Rig.seen g.G.Rig.leaves g.G.Rig.moment g.G.Rig.since g.G.Rig.faults in
    let same : to_z w64 (of_z w64 c.in-Add.by) ≡ c.in-Add.by = search (rules, to_z-of_z) in
    let added = subst (λ (z : ℤ). Serving tell (Add c.in-Add.txn c.in-Add.rid z) (did c.add.result) c.args.c.now c.add.new.c) same
    c.add.ensures.served in
    served-as tell c.args.c.now c.add.new.c _ _ _ _ c.in-Add.is c.as_did-in-Add.ensures added

pub returns-in-Insert-clause-served : goal.returns-in-Insert-clause-served
returns-in-Insert-clause-served g c =
    let tell : Telling _ = telling g.G.Rig.seen g.G.Rig.leaves g.G.Rig.moment g.G.Rig.since g.G.Rig.faults in
    let at = c.in-Insert in
    let placed = subst (λ (v : List ℕ). Serving tell (Insert at.txn at.page v at.capacity) (placed_at c.insert.result) c.args.c.now c.insert.new.c)
    c.items-in-Insert.ensures c.insert.ensures.served in
    served-as tell c.args.c.now c.insert.new.c _ _ _ _ at.is c.as_placed.ensures placed

pub returns-in-Delete-clause-served : goal.returns-in-Delete-clause-served
returns-in-Delete-clause-served g c =
    let tell : Telling _ = telling g.G.Rig.seen g.G.Rig.leaves g.G.Rig.moment g.G.Rig.since g.G.Rig.faults in
    served-as tell c.args.c.now c.delete.new.c _ _ _ _ c.in-Delete.is c.as_did-in-Delete.ensures c.delete.ensures.served

pub returns-in-Save-clause-served : goal.returns-in-Save-clause-served
returns-in-Save-clause-served g c =
    let tell : Telling _ = telling g.G.Rig.seen g.G.Rig.leaves g.G.Rig.moment g.G.Rig.since g.G.Rig.faults in
    served-as tell c.args.c.now c.save.new.c _ _ _ _ c.in-Save.is c.as_did-in-Save.ensures c.save.ensures.served

pub returns-in-Back-clause-served : goal.returns-in-Back-clause-served
returns-in-Back-clause-served g c =
    let tell : Telling _ = telling g.G.Rig.seen g.G.Rig.leaves g.G.Rig.moment g.G.Rig.since g.G.Rig.faults in
    served-as tell c.args.c.now c.back_to.new.c _ _ _ _ c.in-Back.is c.as_did-in-Back.ensures c.back_to.ensures.served

pub returns-in-List-clause-served : goal.returns-in-List-clause-served
returns-in-List-clause-served g c =
    let tell : Telling _ = telling g.G.Rig.seen g.G.Rig.leaves g.G.Rig.moment g.G.Rig.since g.G.Rig.faults in
    served-as tell c.args.c.now c.list_page.new.c _ _ _ _ c.in-List.is c.as_listed.ensures c.list_page.ensures.served

-- ---- recoveries go on

pub returns-in-Begin-clause-rest : goal.returns-in-Begin-clause-rest
returns-in-Begin-clause-rest g c helps = absurd (subst IsHelping c.in-Begin.is helps)

pub returns-in-Read-clause-rest : goal.returns-in-Read-clause-rest
returns-in-Read-clause-rest g c helps = absurd (subst IsHelping c.in-Read.is helps)

pub returns-in-Write-clause-rest : goal.returns-in-Write-clause-rest
returns-in-Write-clause-rest g c helps = absurd (subst IsHelping c.in-Write.is helps)

pub returns-in-Add-clause-rest : goal.returns-in-Add-clause-rest
returns-in-Add-clause-rest g c helps = absurd (subst IsHelping c.in-Add.is helps)

pub returns-in-Insert-clause-rest : goal.returns-in-Insert-clause-rest
returns-in-Insert-clause-rest g c helps = absurd (subst IsHelping c.in-Insert.is helps)

pub returns-in-Delete-clause-rest : goal.returns-in-Delete-clause-rest
returns-in-Delete-clause-rest g c helps = absurd (subst IsHelping c.in-Delete.is helps)

pub returns-in-Save-clause-rest : goal.returns-in-Save-clause-rest
returns-in-Save-clause-rest g c helps = absurd (subst IsHelping c.in-Save.is helps)

pub returns-in-Back-clause-rest : goal.returns-in-Back-clause-rest
returns-in-Back-clause-rest g c helps = absurd (subst IsHelping c.in-Back.is helps)

pub returns-in-List-clause-rest : goal.returns-in-List-clause-rest
returns-in-List-clause-rest g c helps = absurd (subst IsHelping c.in-List.is helps)

pub returns-in_default-clause-rest : goal.returns-in_default-clause-rest
returns-in_default-clause-rest g c = c.serve_place.ensures.rest

-- Reads and puts of lists of acts, and tables after lists of transactions. It serves the laws of views and of runs.
use Rattle.std.proofs.Common.{◌≡◌, cond, List, [], ◌∷◌, ◌++◌, refl, ap}
use Rattle.sd_base.specs.declared.ids.Rid.{Rid}
use Rattle.sd_model.specs.declared.act.Act.{Act}
use Rattle.sd_model.specs.declared.act.Act.TheVariants.{Read, Put, Undo}
use Rattle.sd_model.specs.declared.act.Done.{Done}
use Rattle.sd_base.specs.Ids.{same_rid}
use Rattle.sd_model.specs.Tables.{Content, Contents}
use Rattle.sd_model.specs.Acts.{Puts, undone, live_from, live, seen_over, ReadsFrom, Reads, after, Serial}

pub live_from-append : (puts : Puts) (xs ys : List Act) → live_from puts (xs ++ ys) ≡ live_from (live_from puts xs) ys
live_from-append puts [] ys = refl
live_from-append puts (Read r v ∷ xs) ys = live_from-append puts xs ys
live_from-append puts (Put r v ∷ xs) ys = live_from-append ((r, v) ∷ puts) xs ys
live_from-append puts (Undo ∷ xs) ys = live_from-append (undone puts) xs ys

pub ReadsFrom-append : (base : Contents) (puts : Puts) (xs ys : List Act) → ReadsFrom base puts xs → ReadsFrom base (live_from puts xs) ys → ReadsFrom base puts (xs ++ ys)
ReadsFrom-append base puts [] ys a b = b
ReadsFrom-append base puts (Read r v ∷ xs) ys a b = (a.0, ReadsFrom-append base puts xs ys a.1 b)
ReadsFrom-append base puts (Put r v ∷ xs) ys a b = ReadsFrom-append base ((r, v) ∷ puts) xs ys a b
ReadsFrom-append base puts (Undo ∷ xs) ys a b = ReadsFrom-append base (undone puts) xs ys a b

-- what is seen over two tables that agree at the record
pub seen-agree : (base other : Contents) (puts : Puts) (r : Rid) → base r ≡ other r → seen_over base puts r ≡ seen_over other puts r
seen-agree base other [] r e = e
seen-agree base other (p ∷ puts) r e = ap (λ (v : Content). cond (same_rid p.0 r) p.1 v) (seen-agree base other puts r e)

pub after-snoc : (start : Contents) (done : List Done) (d : Done) → after start (done ++ d ∷ []) ≡ seen_over (after start done) (live d.acts)
after-snoc start [] d = refl
after-snoc start (x ∷ done) d = after-snoc (seen_over start (live x.acts)) done d

pub Serial-snoc : (start : Contents) (done : List Done) (d : Done) → Serial start done → Reads (after start done) d.acts → Serial start (done ++ d ∷ [])
Serial-snoc start [] d s a = (a, tt)
Serial-snoc start (x ∷ done) d s a = (s.0, Serial-snoc (seen_over start (live x.acts)) done d s.1 a)

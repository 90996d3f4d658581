-- The work of a zone: none, asked or agreed; what it says, and what the kinds do to it: ZONE-1 and
-- the effects of KIND-1, KIND-2, KIND-4, KIND-6 and KIND-10 (docs/RULES.md).
use Rattle.std.specs.Prelude.{Bool, true, false, ◌&&◌, ◌≡◌, ℕ, eqb}
use Rattle.sets.specs.Sets.{union, without}
use Rattle.zone.specs.declared.Agreement.{Agreement}
use Rattle.zone.specs.declared.Work.{Work}
use Rattle.zone.specs.declared.Work.TheVariants.{NoWork, Asked, Agreed}

-- work in the zone: 16 in KIND-1.1
abbrev pub has_work : Work → Bool
has_work NoWork = false
has_work (Asked q) = true
has_work (Agreed g) = true

-- agreed to: 18 in KIND-2.2 and KIND-3.2; where it is not, 18 in KIND-4.3, KIND-10.3 and KIND-11.2
abbrev pub is_agreed : Work → Bool
is_agreed NoWork = false
is_agreed (Asked q) = false
is_agreed (Agreed g) = true

-- the form number under which the work was asked
abbrev pub form_of : Work → ℕ
form_of NoWork = 0
form_of (Asked q) = q.form
form_of (Agreed g) = g.form

-- work in the zone "under this id"
abbrev pub under_form : Work → ℕ → Bool
under_form w id = has_work w && eqb (form_of w) id

-- 1 form M.45 (22 in KIND-10.5), 2 recorded verbal (22 in KIND-4.5), another neither (VALUE-7)
abbrev pub manner : Work → ℕ
manner NoWork = 0
manner (Asked q) = q.manner
manner (Agreed g) = g.manner

-- the turnouts asked for, agreed or not
abbrev pub work_set : Work → ℕ
work_set NoWork = 0
work_set (Asked q) = q.set
work_set (Agreed g) = g.set

-- the turnouts under agreed work
abbrev pub agreed_set : Work → ℕ
agreed_set NoWork = 0
agreed_set (Asked q) = 0
agreed_set (Agreed g) = g.set

-- the turnouts open to work, as stored (VALUE-6)
abbrev pub open_set : Work → ℕ
open_set NoWork = 0
open_set (Asked q) = 0
open_set (Agreed g) = g.opened

-- when the work was agreed to
abbrev pub agreed_at : Work → ℕ
agreed_at NoWork = 0
agreed_at (Asked q) = 0
agreed_at (Agreed g) = g.since

-- KIND-1.3: "work asked"
abbrev pub asked_for : ℕ → ℕ → ℕ → Work
asked_for form manner set = Asked (record { form = form; manner = manner; set = set })

-- KIND-2.4: "agreed, at this time"; nothing is open yet
abbrev pub agreed_from : Work → ℕ → Work
agreed_from NoWork time = NoWork
agreed_from (Asked q) time =
    Agreed (record { form = q.form; manner = q.manner; set = q.set; since = time; opened = 0 })
agreed_from (Agreed g) time = Agreed g

-- an agreement with other turnouts under work, and others open
abbrev pub with_sets : Agreement → ℕ → ℕ → Agreement
with_sets g set opened =
    record { form = g.form; manner = g.manner; set = set; since = g.since; opened = opened }

-- KIND-4.6: "a, b open to work"
abbrev pub opened_to : Work → ℕ → Work
opened_to NoWork s = NoWork
opened_to (Asked q) s = Asked q
opened_to (Agreed g) s = Agreed (with_sets g g.set (union g.opened s))

-- KIND-6.6: "shut to work"
abbrev pub shut_to : Work → ℕ → Work
shut_to NoWork s = NoWork
shut_to (Asked q) s = Asked q
shut_to (Agreed g) s = Agreed (with_sets g g.set (without g.opened s))

-- KIND-10.6: "a leaves the work, shut to work"
abbrev pub restored_of : Work → ℕ → Work
restored_of NoWork s = NoWork
restored_of (Asked q) s = Asked q
restored_of (Agreed g) s = Agreed (with_sets g (without g.set s) (without g.opened s))

-- one work after another where nothing but the agreement, if there is one, changes by a relation
abbrev pub agreement_changes : (Agreement → Agreement → Type 0) → Work → Work → Type 0
agreement_changes to NoWork w = w ≡ NoWork
agreement_changes to (Asked q) w = w ≡ Asked q
agreement_changes to (Agreed g) w = (h : Agreement) × to g h × (w ≡ Agreed h)

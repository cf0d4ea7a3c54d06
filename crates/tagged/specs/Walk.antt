-- What is left of a list while its fields are walked over, and what a step of the walk gives.
use Rattle.std.specs.Prelude.{◌≡◌, List, [], ◌∷◌, ◌+◌, length, drop, Option, None, Some}
use Rattle.tagged.specs.Fields.{Placed, fields_at, size_of}
use Rattle.tagged.specs.Fields as fields
use Rattle.tagged.specs.declared.walk.Field.{Field}
use Rattle.tagged.specs.declared.walk.Fields.{Fields}

-- a field that the walk gives, as the definitions have it
abbrev pub placed : Field → Placed fields.Field
placed f = record { place = f.place; what = record { sort = f.sort; payload = f.payload.now } }

-- the fields that are still to come
abbrev pub fields_left : Fields → List (Placed fields.Field)
fields_left s = fields_at s.place s.rest.now

-- a field is given, the first of those that are left; its bytes are passed
pub record Gives (s : Fields) (f : Field) (t : Fields) : Type 0 where
  pub first : fields_left s ≡ placed f ∷ fields_left t
  pub here : f.place ≡ s.place
  pub size : length f.payload.now ≡ size_of s.rest.now
  pub next : t.place ≡ s.place + 3 + length f.payload.now
  pub after : t.rest.now ≡ drop (3 + length f.payload.now) s.rest.now
  pub shorter : 3 + length f.payload.now + length t.rest.now ≡ length s.rest.now

-- a step gives the first field, or there is none
abbrev pub GivesField : Fields → Option Field → Fields → Type 0
GivesField s None t = fields_left s ≡ []
GivesField s (Some f) t = Gives s f t

-- The state of a walk.
use Rattle.std.specs.Prelude.{◌≡◌, ◌⊎◌, ◌<◌, ◌-◌, ℕ, List, [], ◌∷◌, ◌++◌, length, take, replicate, Some, slice_get}
use Rattle.std.specs.Prelude.{slice_set, Contains}
use Rattle.name_walk.specs.declared.mark.Mark.{Mark}
use Rattle.name_walk.specs.declared.mark.Mark.TheVariants.{Closed, OnPath, Open}
use Rattle.name_walk.specs.declared.traces.Frame.{Frame}

-- the mark of each name, the names that were entered, the names that were closed, in order, and the path above the
-- current name
pub record WalkTrace : Type 0 where
  pub marks : List Mark
  pub entered_names : List ℕ
  pub order : List ℕ
  pub frames : List Frame

abbrev pub no_walk_traces : WalkTrace
no_walk_traces = record { marks = []; entered_names = []; order = []; frames = [] }

-- the path: the names of the frames, and then the current name
abbrev pub path_of_frames : List Frame → ℕ → List ℕ
path_of_frames [] n = n ∷ []
path_of_frames (f ∷ fs) n = f.name ∷ path_of_frames fs n

-- marks for `count` names; new names are open
abbrev pub walk_trace_with_names : ℕ → WalkTrace → WalkTrace
walk_trace_with_names count t = record t { marks = take count t.marks ++ replicate (count - length t.marks) Open }

-- a name is put on the path
abbrev pub walk_trace_with_entered : WalkTrace → ℕ → WalkTrace
walk_trace_with_entered t n = record t { marks = slice_set t.marks n OnPath; entered_names = t.entered_names ++ n ∷ [] }

-- a name is closed
abbrev pub walk_trace_with_closed : WalkTrace → ℕ → WalkTrace
walk_trace_with_closed t n = record t { marks = slice_set t.marks n Closed; order = t.order ++ n ∷ [] }

-- one more frame above the current name
abbrev pub walk_trace_with_frame : WalkTrace → Frame → WalkTrace
walk_trace_with_frame t f = record t { frames = t.frames ++ f ∷ [] }

abbrev pub walk_trace_without_order : WalkTrace → WalkTrace
walk_trace_without_order t = record t { order = [] }

-- the path is empty
abbrev pub walk_trace_without_frames : WalkTrace → WalkTrace
walk_trace_without_frames t = record t { frames = [] }

-- every mark is open
abbrev pub AreWalkMarksOpen : List Mark → Type 0
AreWalkMarksOpen marks = (n : ℕ) → n < length marks → slice_get marks n ≡ Some Open

-- each name with a mark other than open is in the list, and each name in the list has a mark
pub record AreWalkNamesEntered (marks : List Mark) (names : List ℕ) : Type 0 where
  pub names_within : (n : ℕ) → Contains names n → n < length marks
  pub open_or_listed : (n : ℕ) → n < length marks → (slice_get marks n ≡ Some Open) ⊎ Contains names n

-- the state between two walks
pub record IsIdleWalk (t : WalkTrace) : Type 0 where
  pub are_open : AreWalkMarksOpen t.marks
  pub none_entered : t.entered_names ≡ []
  pub frames : t.frames ≡ []

-- all marks are open again, and the order is unchanged
pub record IsClearedWalk (old new : WalkTrace) : Type 0 where
  pub is_idle : IsIdleWalk new
  pub same_size : length new.marks ≡ length old.marks
  pub order : new.order ≡ old.order

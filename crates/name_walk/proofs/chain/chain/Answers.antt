use Rattle.std.proofs.Common.{◌≡◌, ◌+◌, ◌<◌, ℕ, Bool, List, [], ◌∷◌, ◌++◌, length, drop, get_or, ◌∙◌, ap, subst, arith}
use Rattle.std.proofs.Common.{Vec, Global}
use Rattle.std.proofs.lemmas.List.{drop_all, drop_more}
use Rattle.name_walk.specs.declared.traces.Frame.{Frame}
use Rattle.name_walk.specs.Faults.{path_from_name}
use Rattle.name_walk.specs.Traces.{path_of_frames}
use Rattle.name_walk.proofs.Chains.{IsChaining, chaining_end, chaining_keep, chaining_pass}
use Rattle.name_walk.proofs.chain.chain.Goals as goal
use Rattle.name_walk.proofs.chain.chain.Goals.{then-is_below+in_ok-push, else-is_below}

-- the remaining frames begin with the next frame
next : (again last : ℕ) (all names : List ℕ) (b : Bool) (fs : List Frame) (i : ℕ) (d : Frame) → i < length fs
    → IsChaining again last all names b (drop i fs)
    → IsChaining again last all names b (get_or fs i d ∷ drop (i + 1) fs)
next again last all names b fs i d l h =
    subst (λ (rest : List Frame). IsChaining again last all names b rest) (drop_more fs i d l) h

pub loop-frame-init : goal.loop-frame-init
loop-frame-init c = record {
  whole = ap (λ xs. xs ++ path_from_name c.args.again (path_of_frames c.args.frames.now c.args.last))
      c.new-names.ensures.items;
  ahead = c.requires;
}

pub loop-frame-preserved : goal.loop-frame-preserved
loop-frame-preserved c =
    let h = next c.args.again c.args.last _ _ _ c.args.frames.now c.loop-frame.frame-index _ c.loop-frame-test.true
    c.loop-frame.invariant in
    elim c.if-is_below.branch [
      | then-is_below+in_ok-push w ↦
          chaining_keep c.args.again c.args.last _ _ _ _ _ _ h w.if-is_below.true
          (ap (λ (v : Vec ℕ Global). v.items) w.names-is ∙ w.in_ok-push.ensures.items)
      | else-is_below w ↦
          chaining_pass c.args.again c.args.last _ _ _ _ _ _ h w.if-is_below.false
          (ap (λ (v : Vec ℕ Global). v.items) w.names-is)
    ]

pub returns : goal.returns
returns c =
    let none : drop c.loop-frame.frame-index c.args.frames.now ≡ [] =
    drop_all c.loop-frame.frame-index c.args.frames.now (omega (arith, c.loop-frame-test.false)) in
    let all : List ℕ = path_from_name c.args.again (path_of_frames c.args.frames.now c.args.last) in
    let end : IsChaining c.args.again c.args.last all c.loop-frame.names.items c.loop-frame.is_below [] =
    subst (λ (rest : List Frame). IsChaining c.args.again c.args.last all c.loop-frame.names.items c.loop-frame.is_below
    rest) none
    c.loop-frame.invariant in
    c.in_ok-push-3.ensures.items
    ∙ ap (λ xs. xs ++ c.args.again ∷ [])
    (c.in_ok-push-2.ensures.items
    ∙ chaining_end c.args.again c.args.last all c.loop-frame.names.items c.loop-frame.is_below end)

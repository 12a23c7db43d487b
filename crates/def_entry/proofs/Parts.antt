-- The trees of the parts of a list, from left to right.
use Rattle.std.proofs.Common.{◌≡◌, ◌⊎◌, inl, inr, ◌++◌, ℕ, List, [], ◌∷◌, None, Result, Ok, Err, refl, sym, ap, ◌∙◌}
use Rattle.std.proofs.Common.{append_assoc}
use Rattle.units_io.specs.Outcomes.{◌>>=◌}
use Rattle.def_lines.specs.Blanks.{trimmed_of_blanks}
use Rattle.expr_tree.specs.Syntax.{Syntax}
use Rattle.def_entry.specs.declared.fault.EntryFault.{EntryFault}
use Rattle.def_entry.specs.declared.fault.EntryFault.TheVariants.{OutOfMemory}
use Rattle.def_entry.specs.Outcomes.{entry_tree}
use Rattle.def_entry.specs.EntryReading.{entry_trees}

-- some trees, followed by the given ones
abbrev pub joined : List Syntax → Result (List Syntax) EntryFault → Result (List Syntax) EntryFault
joined front (Ok trees) = Ok (front ++ trees)
joined front (Err fault) = Err fault

-- a tree comes after those before it
entry_tree-joined : (front : List Syntax) (tree : Syntax) (given : Result (List Syntax) EntryFault)
    → joined front (given >>= (λ trees. Ok (tree ∷ trees))) ≡ joined (front ++ tree ∷ []) given
entry_tree-joined front tree (Ok trees) = ap Ok (sym (append_assoc front (tree ∷ []) trees))
entry_tree-joined front tree (Err fault) = refl

-- one more part is parsed
pub entry_trees-more : (front new : List Syntax) (tree : Syntax) (part text : List ℕ) (parts : List (List ℕ))
    → text ≡ trimmed_of_blanks part → entry_tree None text ≡ Ok tree → new ≡ front ++ tree ∷ []
    → joined front (entry_trees (part ∷ parts)) ≡ joined new (entry_trees parts)
entry_trees-more front new tree part text parts from is made =
    ap (λ t. joined front (entry_tree None t >>= (λ e. entry_trees parts >>= (λ es. Ok (e ∷ es))))) (sym from)
    ∙ ap (λ r. joined front (r >>= (λ e. entry_trees parts >>= (λ es. Ok (e ∷ es))))) is
    ∙ entry_tree-joined front tree (entry_trees parts)
    ∙ ap (λ t. joined t (entry_trees parts)) (sym made)

-- the fault of a part is the fault of the list
pub entry_trees-fault : (front : List Syntax) (part text : List ℕ) (parts : List (List ℕ)) (fault : EntryFault)
    → text ≡ trimmed_of_blanks part → entry_tree None text ≡ Err fault
    → joined front (entry_trees (part ∷ parts)) ≡ Err fault
entry_trees-fault front part text parts fault from is =
    ap (λ t. joined front (entry_tree None t >>= (λ e. entry_trees parts >>= (λ es. Ok (e ∷ es))))) (sym from)
    ∙ ap (λ r. joined front (r >>= (λ e. entry_trees parts >>= (λ es. Ok (e ∷ es))))) is

-- a fault of the part is one of the whole if the whole has each fault of the part
pub entry_fault_of_part : {A B : Type 0} (fault : EntryFault) (part : Result A EntryFault) (whole : Result B EntryFault)
    → (part ≡ Err fault → whole ≡ Err fault)
    → (fault ≡ OutOfMemory) ⊎ (part ≡ Err fault) → (fault ≡ OutOfMemory) ⊎ (whole ≡ Err fault)
entry_fault_of_part fault part whole go (inl memory) = inl memory
entry_fault_of_part fault part whole go (inr said) = inr (go said)

-- Bytes written block by block.
use Rattle.std.proofs.Common.{◌≡◌, ◌+◌, ◌++◌, ◌∙◌, [], ℕ, List, length, take, Some, None}
use Rattle.std.proofs.Common.{refl, sym, ap, subst, arith, append_assoc, length-append}
use Rattle.std.specs.declared.option.Option.{Option}
use Rattle.std.proofs.lemmas.List.{append-nil, take-append-le, take_all}
use Rattle.units_io.specs.Bytes.{sink_bytes_append, SinkGrowsByPrefix}
use Rattle.general_lemmas.proofs.Parts.{take-append-add}

pub column_run_sink_grows_twice : (o : Option (List ℕ)) (xs ys : List ℕ)
    → sink_bytes_append (sink_bytes_append o xs) ys ≡ sink_bytes_append o
    (xs ++ ys)
column_run_sink_grows_twice None xs ys = refl
column_run_sink_grows_twice (Some held) xs ys = ap Some (append_assoc held xs ys)

pub column_run_sink_grows_by_none : (o : Option (List ℕ)) → o ≡ sink_bytes_append o []
column_run_sink_grows_by_none None = refl
column_run_sink_grows_by_none (Some held) = ap Some (sym (append-nil held))

-- all bytes are a front of themselves
pub column_run_front_of_all : (o out : Option (List ℕ)) (xs : List ℕ) → out ≡ sink_bytes_append o xs
    → SinkGrowsByPrefix o out xs
column_run_front_of_all o out xs e =
    (length xs, omega arith, e ∙ ap (sink_bytes_append o) (sym (take_all (length xs) xs (omega arith))))

-- a front of some bytes is a front of these bytes and more
pub column_run_front_of_more : (o out : Option (List ℕ)) (xs more ys : List ℕ) → ys ≡ xs ++ more
    → SinkGrowsByPrefix o out xs
    → SinkGrowsByPrefix o out ys
column_run_front_of_more o out xs more ys is f = subst (SinkGrowsByPrefix o out) (sym is) (
  f.0,
  omega (arith, f.1, length-append xs more),
  f.2 ∙ ap (sink_bytes_append o) (sym (take-append-le f.0 xs more f.1)),
)

-- a front of the bytes that come after others is a front of both
pub column_run_front_of_both : (o mid out : Option (List ℕ)) (xs ys : List ℕ) → mid ≡ sink_bytes_append o xs
    → SinkGrowsByPrefix mid out ys
    → SinkGrowsByPrefix o out (xs ++ ys)
column_run_front_of_both o mid out xs ys e f = (
  length xs + f.0,
  omega (arith, f.1, length-append xs ys),
  f.2
      ∙ ap (λ p. sink_bytes_append p (take f.0 ys)) e
      ∙ column_run_sink_grows_twice o xs (take f.0 ys)
      ∙ ap (sink_bytes_append o) (sym (take-append-add xs ys f.0)),
)

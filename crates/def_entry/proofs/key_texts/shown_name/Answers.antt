use Rattle.def_entry.proofs.KeyTexts.{name_of_function_spelling, name_of_prefix_spelling}
use Rattle.def_entry.proofs.key_texts.shown_name.Goals as goal

pub returns-in-Prefix : goal.returns-in-Prefix
returns-in-Prefix c =
    name_of_prefix_spelling c.args.kind c.args.bytes.now c.as_slice.result.now c.strip_suffix.result c.in-Prefix.is
    c.as_slice.ensures c.strip_suffix.ensures.cases

pub returns-in-Func : goal.returns-in-Func
returns-in-Func c =
    name_of_function_spelling c.args.kind c.args.bytes.now c.as_slice-in-Func.result.now c.strip_suffix-in-Func.result
    c.in-Func.is
    c.as_slice-in-Func.ensures c.strip_suffix-in-Func.ensures.cases

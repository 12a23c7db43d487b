use Rattle.units_run.proofs.definitions.load_deck.Goals as goal

pub returns-clause-known : goal.returns-clause-known
returns-clause-known g c m is =
    c.transcripts_determine_loads.ensures.loaded c.args.files.now c.load.new.files m c.args.name.now c.args.settings
    c.load.result is c.load.ensures.settings c.load.ensures.loads

pub returns-clause-counted : goal.returns-clause-counted
returns-clause-counted g c =
    c.transcripts_determine_loads.ensures.loaded_count c.args.files.now c.load.new.files c.args.name.now c.load.result
    c.load.ensures.loads

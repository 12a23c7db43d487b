use Rattle.session.proofs.edit_reports.append_file.Goals as goal

pub returns-clause-known : goal.returns-clause-known
returns-clause-known g c m is =
    c.transcripts_determine_loads.ensures.appended c.args.files.now c.append.new.files m c.args.name.now
    c.args.table.now.deck c.append.new.table.deck c.append.result is c.append.ensures.settings c.append.ensures.loads

pub returns-clause-counted : goal.returns-clause-counted
returns-clause-counted g c =
    c.transcripts_determine_loads.ensures.appended_count c.args.files.now c.append.new.files c.args.name.now
    c.args.table.now.deck c.append.new.table.deck c.append.result c.append.ensures.loads

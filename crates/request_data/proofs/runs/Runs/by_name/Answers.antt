use Rattle.request_data.proofs.runs.Runs.by_name.Goals as goal

pub returns-clause-values : goal.returns-clause-values
returns-clause-values c = rw (← c.self.view_is) c.fields_by_name.ensures.values

pub returns-clause-names : goal.returns-clause-names
returns-clause-names c = rw (← c.self.view_is) c.fields_by_name.ensures.names

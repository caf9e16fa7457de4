use Rattle.mock_request.proofs.AuthorityLemmas.{cut_at_colon, names_port, names_no_port, names_no_colon}
use Rattle.mock_request.proofs.authority.host_and_port.Goals as goal

pub returns-in_default-clause-host : goal.returns-in_default-clause-host
returns-in_default-clause-host c = (names_no_colon c.args.authority.now c.in_default.ensures.cases).host_is

pub returns-in_default-clause-port : goal.returns-in_default-clause-port
returns-in_default-clause-port c = (names_no_colon c.args.authority.now c.in_default.ensures.cases).port_is

pub returns-in-Some-port-clause-host : goal.returns-in-Some-port-clause-host
returns-in-Some-port-clause-host c =
    (
    names_port _ _ _ _
    (cut_at_colon c.args.authority.now c.in-Some.host.now c.in-Some.digits.now c.in-Some.ensures.cases)
    c.in-Some-port.ensures
    ).host_is

pub returns-in-Some-port-clause-port : goal.returns-in-Some-port-clause-port
returns-in-Some-port-clause-port c =
    (
    names_port _ _ _ _
    (cut_at_colon c.args.authority.now c.in-Some.host.now c.in-Some.digits.now c.in-Some.ensures.cases)
    c.in-Some-port.ensures
    ).port_is

pub returns-in-None-clause-host : goal.returns-in-None-clause-host
returns-in-None-clause-host c =
    (
    names_no_port _ _ _
    (cut_at_colon c.args.authority.now c.in-Some.host.now c.in-Some.digits.now c.in-Some.ensures.cases)
    c.in-None.ensures
    ).host_is

pub returns-in-None-clause-port : goal.returns-in-None-clause-port
returns-in-None-clause-port c =
    (
    names_no_port _ _ _
    (cut_at_colon c.args.authority.now c.in-Some.host.now c.in-Some.digits.now c.in-Some.ensures.cases)
    c.in-None.ensures
    ).port_is

pub mod HomForms
